use Rattle.warm_start.proofs.inspecting.looked.Goals as goal

pub returns-clause-pages : goal.returns-clause-pages
returns-clause-pages g c = c.find_pages.ensures.pages

pub returns-clause-none : goal.returns-clause-none
returns-clause-none g c = c.find_pages.ensures.none
