use Rattle.std.proofs.Common.{refl, ℕ, List, [], codes, Option, Some, None, subst, arith}
use Rattle.ldom_report.specs.declared.status.Status.TheVariants as status
use Rattle.domain_script.specs.ScriptEvents.{no_names}
use Rattle.ldom_sample.specs.Sample.{sample_text}
use Rattle.script_laws.specs.Replayed.{Replayed}
use Rattle.script_laws.proofs.Assembly.{replayed_as, replayed_none}
use Rattle.disk_law.specs.ListState.{as_image}
use Rattle.ldom_replay.proofs.sample.run_sample.Goals as goal

pub returns-in-Ok-clause-replayed : goal.returns-in-Ok-clause-replayed
returns-in-Ok-clause-replayed g c =
    let seen = as_image g.H.Disk.Store in
    let gives = g.H.Host.gives c.args.host.now (codes "-") in
    record {
      left = Some c.run_script.new.source;
      replayed = subst (λ (bytes : List ℕ). Replayed seen (Some bytes) (Some c.run_script.new.source) gives c.run_script.result.status c.run_script.result.lines c.run_script.result.names
          c.run_script.result.journal.entries c.run_script.result.image c.run_script.result.lanes) c.in-Ok.ensures c.run_script.ensures.replayed;
    }

pub returns-in-Ok-clause-source : goal.returns-in-Ok-clause-source
returns-in-Ok-clause-source g c failed = omega (arith, c.run_script.ensures.source.cause failed (omega arith))

pub returns-in-Err-clause-replayed : goal.returns-in-Err-clause-replayed
returns-in-Err-clause-replayed g c =
    let seen = as_image g.H.Disk.Store in
    let gives = g.H.Host.gives c.args.host.now (codes "-") in
    let text : Option (List ℕ) = Some (sample_text c.args.number) in
    record {
      left = text;
      replayed = replayed_as seen text text gives status.NoMemory c.without_memory.result.status 0 c.without_memory.result.lines no_names c.without_memory.result.names
          [] c.without_memory.result.journal.entries None c.without_memory.result.image None c.without_memory.result.lanes
          c.without_memory.ensures.status c.without_memory.ensures.lines c.without_memory.ensures.names c.without_memory.ensures.journal c.without_memory.ensures.image c.without_memory.ensures.lanes
          (replayed_none seen text text gives no_names refl refl);
    }
