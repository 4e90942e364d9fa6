-- The journals of runs whose threads have the parts of the layer.
use Rattle.std.specs.Prelude.{List}
use Rattle.w32_base.specs.declared.entry.Entry.{Entry}
use Rattle.w32_base.specs.declared.entry.End.{End}
use Rattle.script_spec.specs.declared.script.Script.{Script}
use Rattle.layer_spec.specs.Headline.{IsJournalOf}
use Rattle.layer_actor.specs.Actor.{actor_posted}
use Rattle.layer_actor.specs.ActorClause.{ActorGoes, actor_slot, actor_thread}
use Rattle.layer_actor.specs.ActorLaws.{IsOpened}

-- The entries are the journal of a run of the script, under its schedule, which ended so; and the thread of each turn
-- went as its part of the layer goes.
abbrev pub IsLayerJournal : Script → List Entry → End → Type 0
IsLayerJournal script entries end =
    IsJournalOf actor_posted ActorGoes IsOpened actor_slot actor_thread script entries end
