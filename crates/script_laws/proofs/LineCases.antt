-- What each kind of line does: no other lemma lists the kinds.
use Rattle.std.proofs.Common.{◌≡◌, ℕ, ◌<◌, true, false, List, [], length, refl, ap, arith, ◌⊎◌, inl, inr, IsTrue}
use Rattle.vdisk_msg.specs.declared.request.Request.TheVariants.{Read, Write, Flush}
use Rattle.domain_script.specs.Limits.{AreRepeats}
use Rattle.domain_script.specs.Words.{IsWithin}
use Rattle.domain_script.specs.numbers.Bounds.TheVariants.{Between}
use Rattle.domain_script.specs.declared.event.DiskDecl.{DiskDecl}
use Rattle.domain_script.specs.declared.event.Event.{Event}
use Rattle.domain_script.specs.declared.event.Event.TheVariants as line
use Rattle.domain_script.specs.declared.event.PortDecl.{PortDecl}
use Rattle.domain_script.specs.declared.event.Side.{Side}
use Rattle.domain_script.specs.declared.event.Side.TheVariants.{Client}
use Rattle.domain_script.specs.declared.fields.LaneKind.{LaneKind}
use Rattle.domain_script.specs.declared.fields.LaneKind.TheVariants as kinds
use Rattle.domain_script.specs.NamesState.{NamesState, count_of, noted}
use Rattle.domain_script.specs.Spells.{IsDeclared}
use Rattle.world_parts.specs.lane_models.LaneState.{LaneState}
use Rattle.lane_kinds.specs.Fronts.{SettleFront}
use Rattle.lane_kinds.specs.Settles.{begin}
use Rattle.world_parts.specs.world_laws.Begun.{RoundFront}
use Rattle.world_parts.specs.domain_laws.Domain.{DomainState, Lanes, lanes}
use Rattle.world_parts.specs.domain_laws.Lines.{AreFirstSteps, BeginsPart, EndTurn, Nothing, fronts}
use Rattle.script_laws.specs.Attached.{is_opening}
use Rattle.world_parts.specs.Lines.{EventStep, HasMemory, IsForLanes, line_of, number_of_kind}

-- the names after a line that is neither blank nor a declaration
abbrev pub closed : NamesState → NamesState
closed names = record { disks = names.disks; ports = names.ports; ended = true }

-- what holds of blank lines, of declarations and of all others
pub by_line : (P : Event → Type 0) → P line.Blank → ((disk : DiskDecl) → P (line.Disk disk)) → ((port : PortDecl) → P (line.Net port))
    → ((e : Event) → is_opening e ≡ false → ((names : NamesState) → noted names e ≡ closed names) → P e) → (e : Event) → P e
by_line P blank declared declared_port other line.Blank = blank
by_line P blank declared declared_port other (line.Disk disk) = declared disk
by_line P blank declared declared_port other (line.Net port) = declared_port port
by_line P blank declared declared_port other (line.Issue disk request) = other (line.Issue disk request) refl (λ _. refl)
by_line P blank declared declared_port other (line.Send port frame) = other (line.Send port frame) refl (λ _. refl)
by_line P blank declared declared_port other (line.Join port address) = other (line.Join port address) refl (λ _. refl)
by_line P blank declared declared_port other line.Settle = other line.Settle refl (λ _. refl)
by_line P blank declared declared_port other (line.Step end count) = other (line.Step end count) refl (λ _. refl)
by_line P blank declared declared_port other (line.Round count) = other (line.Round count) refl (λ _. refl)
by_line P blank declared declared_port other (line.Reset end) = other (line.Reset end) refl (λ _. refl)
by_line P blank declared declared_port other (line.Restart end) = other (line.Restart end) refl (λ _. refl)
by_line P blank declared declared_port other (line.Stop disk) = other (line.Stop disk) refl (λ _. refl)
by_line P blank declared declared_port other (line.Start disk) = other (line.Start disk) refl (λ _. refl)
by_line P blank declared declared_port other (line.Lose end) = other (line.Lose end) refl (λ _. refl)
by_line P blank declared declared_port other (line.Tick ticked) = other (line.Tick ticked) refl (λ _. refl)
by_line P blank declared declared_port other (line.Inject end packet) = other (line.Inject end packet) refl (λ _. refl)
by_line P blank declared declared_port other (line.Poke end at bytes) = other (line.Poke end at bytes) refl (λ _. refl)

-- a blank line or a declaration gives no entry
pub silent : (s : DomainState) (e : Event) → IsTrue (is_opening e) → EventStep s (e, []) s
silent s e =
    by_line (λ (x : Event). IsTrue (is_opening x) → EventStep s (x, []) s)
    (λ _. record { entries = []; says = refl; moves = record { part_of = refl; run = refl } })
    (λ disk _. record { entries = []; says = refl; moves = record { part_of = refl; run = refl } })
    (λ port _. record { entries = []; says = refl; moves = record { part_of = refl; run = refl } })
    (λ x other names is. absurd (cc (other, is))) e

-- one that asks for something is another line
pub asks_something : (e : Event) → (line_of e ≡ Nothing → ⊥) → is_opening e ≡ false
asks_something e asks =
    by_line (λ (x : Event). (line_of x ≡ Nothing → ⊥) → is_opening x ≡ false)
    (λ some. absurd (some refl)) (λ disk some. absurd (some refl)) (λ port some. absurd (some refl))
    (λ x other names some. other) e asks

no_steps : (turns : List EndTurn) → AreFirstSteps turns []
no_steps turns = record { made = []; left = turns; turns_are = refl; another = λ none. refl; steps = tt }

no_round : (w : List LaneState) → RoundFront w [] w
no_round w = record { turns = []; between = w; made = refl; within = omega arith; begun = []; run = refl; next = inl refl; is = refl }

no_settle : (w : Lanes) → SettleFront lanes fronts w [] w
no_settle w = record {
  rounds = [];
  now = begin lanes w;
  run = refl;
  later = [];
  front = inl (omega arith, inl (inl (record { front = no_round w.first; other = refl })));
  is = refl;
}

-- of each line no step may have been made
pub none_begun : (e : Event) (w : Lanes) → BeginsPart (line_of e) w [] w
none_begun line.Blank w = refl
none_begun (line.Disk disk) w = refl
none_begun (line.Net port) w = refl
none_begun (line.Issue disk request) w = refl
none_begun (line.Send port frame) w = refl
none_begun (line.Join port address) w = refl
none_begun line.Settle w = no_settle w
none_begun (line.Step end count) w = no_steps _
none_begun (line.Round count) w = no_steps _
none_begun (line.Reset end) w = refl
none_begun (line.Restart end) w = refl
none_begun (line.Stop disk) w = refl
none_begun (line.Start disk) w = refl
none_begun (line.Lose end) w = refl
none_begun (line.Tick ticked) w = refl
none_begun (line.Inject end packet) w = refl
none_begun (line.Poke end at bytes) w = refl

-- a declaration alone adds to the disks, or to the ports
pub noted_disks : (names : NamesState) (e : Event) → ((disk : DiskDecl) × (e ≡ line.Disk disk)) ⊎ ((noted names e).disks ≡ names.disks)
noted_disks names e =
    by_line (λ (x : Event). ((disk : DiskDecl) × (x ≡ line.Disk disk)) ⊎ ((noted names x).disks ≡ names.disks)) (inr refl) (λ disk. inl (disk, refl)) (λ port. inr refl)
    (λ x other closes. inr (ap (λ (n : NamesState). n.disks) (closes names))) e

pub noted_ports : (names : NamesState) (e : Event) → ((port : PortDecl) × (e ≡ line.Net port)) ⊎ ((noted names e).ports ≡ names.ports)
noted_ports names e =
    by_line (λ (x : Event). ((port : PortDecl) × (x ≡ line.Net port)) ⊎ ((noted names x).ports ≡ names.ports)) (inr refl) (λ disk. inr refl)
    (λ port. inl (port, refl)) (λ x other closes. inr (ap (λ (n : NamesState). n.ports) (closes names))) e

pub stays_ended : (names : NamesState) (e : Event) → names.ended ≡ true → (noted names e).ended ≡ true
stays_ended names e ended =
    by_line (λ (x : Event). (noted names x).ended ≡ true) ended (λ disk. ended) (λ port. ended) (λ x other closes. ap (λ (n : NamesState). n.ended) (closes names)) e

-- any other line ends the declarations
pub ends : (names : NamesState) (e : Event) → is_opening e ≡ false → (noted names e).ended ≡ true
ends names e =
    by_line (λ (x : Event). is_opening x ≡ false → (noted names x).ended ≡ true) (λ other. absurd (cc other)) (λ disk other. absurd (cc other)) (λ port other. absurd (cc other))
    (λ x _ closes other. ap (λ (n : NamesState). n.ended) (closes names)) e

turns : (count : ℕ) → IsWithin (Between 1 100) count → AreRepeats count
turns count is = (omega (arith, is.0), is.1)

-- the memory that is poked
has_memory : (kind : LaneKind) (side : Side) → (kind ≡ kinds.Disk → side ≡ Client) → HasMemory kind side
has_memory kinds.Disk side of_disk = of_disk refl
has_memory _ side of_disk = tt

module _ (names : NamesState) (w : DomainState) (disks : length w.first.lanes ≡ length names.disks)
    (ports : length w.second ≡ length names.ports) where
  same_number : (kind : LaneKind) → number_of_kind kind w ≡ count_of kind names
  same_number kinds.Disk = disks
  same_number _ = grind arith

  within : (kind : LaneKind) (k : ℕ) → k < count_of kind names → k < number_of_kind kind w
  within kind k less = omega (arith, less, same_number kind)

  -- the event is for one of the lanes that are declared
  pub for_declared : (e : Event) → IsDeclared names e → IsForLanes w e
  for_declared line.Blank is = tt
  for_declared (line.Disk disk) is = tt
  for_declared (line.Net port) is = tt
  for_declared (line.Issue disk (Write block count fill)) is = (within kinds.Disk disk is.0, is.1.1.1.0)
  for_declared (line.Issue disk (Read block count)) is = (within kinds.Disk disk is.0, tt)
  for_declared (line.Issue disk Flush) is = (within kinds.Disk disk is.0, tt)
  for_declared (line.Send port frame) is = (within kinds.Port port is.0, is.1.0)
  for_declared (line.Join port address) is = (within kinds.Port port is.0, is.1.0)
  for_declared line.Settle is = tt
  for_declared (line.Step end count) is = (within end.lane.kind end.lane.number is.0.0, turns count is.1.0.1)
  for_declared (line.Round count) is = turns count is.0.1
  for_declared (line.Reset end) is = within end.lane.kind end.lane.number is.0.0
  for_declared (line.Restart end) is = (within end.lane.kind end.lane.number is.0.0, is.0.1.0, is.0.1.1)
  for_declared (line.Stop disk) is = within kinds.Disk disk is.0
  for_declared (line.Start disk) is = within kinds.Disk disk is.0
  for_declared (line.Lose end) is = within end.lane.kind end.lane.number is.0.0
  for_declared (line.Tick ticked) is = within ticked.kind ticked.number is.0
  for_declared (line.Inject end packet) is = within end.lane.kind end.lane.number is.0.0
  for_declared (line.Poke end at bytes) is =
      (within end.lane.kind end.lane.number is.0.0, has_memory end.lane.kind end.side is.0.1)
