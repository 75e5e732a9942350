-- What fuses stand for.
use Rattle.spool_disk.specs.declared.fuses.Fuses.{Fuses}
use Rattle.spool_disk.specs.Fuses.{Armed}

abbrev pub armed_of : Fuses → Armed
armed_of f = record { acts = f.acts; prints = f.prints }
