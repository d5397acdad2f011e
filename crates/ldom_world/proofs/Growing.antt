-- A journal that grew in a settle: by nothing, by more after others, and by what else it may be taken for.
use Rattle.std.proofs.Common.{List, [], ◌++◌, refl}
use Rattle.recorded_lanes.specs.world_parts.world_laws.Settle.{SettleEntry}
use Rattle.recorded_lanes.specs.world_parts.domain_laws.Domain.{DomainState}
use Rattle.recorded_lanes.specs.world_parts.domain_laws.Lines.{LineBegins, LineMoves}
use Rattle.recorded_lanes.specs.world_parts.domain_laws.Lines as script
use Rattle.ldom_entries.specs.declared.entry.Entry.{Entry}
use Rattle.recorded_lanes.proofs.Adding.{both_add, none_adds}
use Rattle.ldom_world.specs.SettleParts.{Grew}
use Rattle.recorded_lanes.specs.world_parts.Parts.{Fits, FitsSoFar}

pub none_grew : (Holds : List SettleEntry → Type 0) (old : List Entry) → Holds [] → Grew Holds old old
none_grew Holds old holds = record { entries = []; adds = none_adds script.Settles old old refl; holds = holds }

pub both_grew : (First Second Both : List SettleEntry → Type 0) (old mid new : List Entry)
    → ((one two : List SettleEntry) → First one → Second two → Both (one ++ two)) → Grew First old mid
    → Grew Second mid new → Grew Both old new
both_grew First Second Both old mid new joins first second = record {
  entries = first.entries ++ second.entries;
  adds = both_add script.Settles old mid new first.entries second.entries first.adds second.adds;
  holds = joins first.entries second.entries first.holds second.holds;
}

pub also_grew : (One Other : List SettleEntry → Type 0) (old new : List Entry)
    → ((entries : List SettleEntry) → One entries → Other entries) → Grew One old new → Grew Other old new
also_grew One Other old new same grew =
    record { entries = grew.entries; adds = grew.adds; holds = same grew.entries grew.holds }

pub fits_of : (start now : DomainState) (old new : List Entry) → Grew (λ es. LineMoves start script.Settles es now) old new
    → Fits start script.Settles old new now
fits_of start now old new grew = record { entries = grew.entries; adds = grew.adds; moves = grew.holds }

pub begins_of : (start now : DomainState) (old new : List Entry)
    → Grew (λ es. LineBegins start script.Settles es now) old new → FitsSoFar start script.Settles old new now
begins_of start now old new grew = record { entries = grew.entries; adds = grew.adds; begins = grew.holds }
