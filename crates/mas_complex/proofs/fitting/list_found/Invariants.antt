use Rattle.mas_complex.proofs.Answering.{◌≡◌, ◌≤◌, ◌++◌, take, drop, bytes_of, level, first_page, found_numbers, numbers_from}
use Rattle.mas_complex.proofs.fitting.list_found.Given as goal

abbrev pub invariant-loop-page : goal.invariant-loop-page
invariant-loop-page l = record {
  few : l.count ≤ l.page;
  listed : take l.count l.numbers ++ numbers_from (first_page l.found) (level (bytes_of l.found)) l.page (drop l.page l.found) ≡ found_numbers l.found;
}
