-- How far the journal of a run goes, by its status.
use Rattle.std.specs.Prelude.{◌≡◌, List, [], None, ⊤}
use Rattle.domain_laws.specs.Domain.{DomainState}
use Rattle.ldom_entries.specs.declared.entry.Entry.{Entry}
use Rattle.ldom_report.specs.declared.status.Status.{Status}
use Rattle.ldom_report.specs.declared.status.Status.TheVariants as status
use Rattle.world_parts.specs.Script.{FitsScript, ScriptParts, journal_of}

pub data Ending : Type 0 where
  -- each line gave its part
  Whole : Ending
  -- the last one may have given a front of it
  MayBeCut : Ending
  -- none gave any
  NotBegun : Ending

abbrev pub ending : Status → Ending
ending status.NoMemory = MayBeCut
ending status.HostFault = NotBegun
ending (status.ImageSize need have) = NotBegun
ending other = Whole

abbrev pub EndsSo : Ending → ScriptParts → Type 0
EndsSo Whole parts = parts.cut ≡ None
EndsSo MayBeCut parts = ⊤
EndsSo NotBegun parts = journal_of parts ≡ []

-- THE JOURNAL of a run is the parts of its lines, one after another: after want of memory the last may be a front of
-- one, and where no image was attached there is none.
pub record JournalIs (how : Ending) (s : DomainState) (parts : ScriptParts) (journal : List Entry) (t : DomainState) : Type 0 where
  pub is : journal_of parts ≡ journal
  pub fits : FitsScript 0 s parts t
  pub ends : EndsSo how parts
