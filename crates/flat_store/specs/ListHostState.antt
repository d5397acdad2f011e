-- A host with one image in memory.
use Rattle.std.specs.Prelude.{ℕ, List, [], Bool, ◌||◌, not, codes, if◌then◌else◌}
use Rattle.std.specs.Str.{bytes_eq}
use Rattle.vio_io.specs.Causes.{next_count}
use Rattle.vio_io.specs.Given.{next_given}
use Rattle.vio_io.specs.FaultPlan.{Plan, unused}

pub record ListHostState : Type 0 where
  pub name : List ℕ
  pub image : List ℕ
  -- the calls of its disk that fail
  pub failing : List ℕ
  -- every attach is a fault
  pub attach_fails : Bool
  pub faults : ℕ
  -- how many disks it gave, modulo 2^64
  pub given : ℕ

-- whether attaching this name is a fault
abbrev pub refuses : ListHostState → List ℕ → Bool
refuses h name = h.attach_fails || not (bytes_eq name (codes "-") || bytes_eq name h.name)

-- after giving a disk: it is counted, and all else stays
abbrev pub after_giving : ListHostState → ListHostState
after_giving h = record h { given = next_given h.given }

-- after giving none under this name: a refusal is counted, and all else stays
abbrev pub after_none : ListHostState → List ℕ → ListHostState
after_none h name = record h { faults = if refuses h name then next_count h.faults else h.faults }

-- The plan of the disk under this name, which was never called: of zeros, under `-`, no call fails.
abbrev pub disk_plan : ListHostState → List ℕ → Plan
disk_plan h name = unused (if bytes_eq name (codes "-") then [] else h.failing)
