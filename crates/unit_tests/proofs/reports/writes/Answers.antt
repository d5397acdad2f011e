use Rattle.domain_script.specs.NamesState.{declared_by}
use Rattle.unit_tests.proofs.reports.writes.Goals as goal

-- for the names of one disk, what holds of each list of one disk
pub write_text-requires : goal.write_text-requires
write_text-requires g c = record { words = c.requires (declared_by c.one_disk.result) c.one_disk.ensures.few }
