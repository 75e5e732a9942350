use Rattle.change_log.proofs.Directing.{numbers_back, spelled_back}
use Rattle.change_log.proofs.Spelling.{spelled_only}
use Rattle.change_log.proofs.laws.law_of_directories.Goals as goal

pub returns-clause-reads : goal.returns-clause-reads
returns-clause-reads c n level numbers few size are = (spelled_back n level numbers few size are, numbers_back n level numbers few size are)

pub returns-clause-spells : goal.returns-clause-spells
returns-clause-spells c n block few size bytes spelled = spelled_only n block few size bytes spelled
