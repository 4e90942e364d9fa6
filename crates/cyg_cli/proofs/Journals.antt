-- A journal that ends by the budget has as many entries as that.
use Rattle.std.proofs.Common.{◌≡◌, ℕ, List, length, ◌∙◌, ap}
use Rattle.w32_base.specs.declared.call.Call.{Call}
use Rattle.w32_base.specs.declared.call.Reply.{Reply}
use Rattle.w32_base.specs.declared.entry.Entry.{Entry}
use Rattle.w32_base.specs.declared.entry.End.TheVariants.{Budget}
use Rattle.w32_base.specs.declared.own.Own.{Own}
use Rattle.w32_base.specs.declared.part.After.{After}
use Rattle.w32_base.specs.declared.setup.Setup.{Setup}
use Rattle.script_spec.specs.declared.script.Script.{Script}
use Rattle.layer_spec.specs.Headline.{IsJournalOf}
use Rattle.layer_spec.specs.HistoryLaws.{length-entries_of}

pub full_at_budget : {A : Type 0} → (posted_of : A → Call) (goes : A → Own → Setup → Reply → A → Own → After → Type 0)
    (opening : A → Type 0) (slot_of thread_of : A → ℕ) (script : Script) (run : List Entry)
    → IsJournalOf posted_of goes opening slot_of thread_of script run Budget
    → length run ≡ script.setup.limits.budget
full_at_budget posted_of goes opening slot_of thread_of script run h =
    ap length h.in_order ∙ (length-entries_of h.past ∙ h.schedule.within.0)
