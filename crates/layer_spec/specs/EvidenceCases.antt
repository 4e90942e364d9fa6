-- Evidence worked out: what stands in a call, how entries count, what a thread's work is, and bodies that it refuses.
use Rattle.std.specs.Prelude.{◌≡◌, true, false, [], ◌∷◌, Option, Some, None}
use Rattle.std.proofs.Common.{refl, sym, ap, ◌∙◌, inl, inr}
use Rattle.std.proofs.lemmas.Bool.{false≢true}
use Rattle.w32_base.specs.declared.call.Call.TheVariants as call
use Rattle.w32_base.specs.declared.call.Reply.TheVariants as reply
use Rattle.w32_base.specs.declared.event.Event.{Event}
use Rattle.w32_base.specs.declared.event.Event.TheVariants as event
use Rattle.w32_base.specs.declared.event.ForkCause.TheVariants as fork_cause
use Rattle.w32_base.specs.declared.entry.Directive.TheVariants as directive
use Rattle.w32_base.specs.declared.entry.Outcome.TheVariants as outcome
use Rattle.w32_base.specs.declared.entry.Entry.{Entry}
use Rattle.script_spec.specs.declared.script.Script.{Script}
use Rattle.layer_spec.specs.Moment.{Moment, Seen, SomeSeen, seen_at, entries_of, events_of}
use Rattle.layer_spec.specs.Owners.{seen_in_call}
use Rattle.layer_spec.specs.Turns.{was_ended}
use Rattle.layer_spec.specs.Discipline.{is_create}
use Rattle.layer_spec.specs.CallsDone.{FindsNoSlot}
use Rattle.layer_spec.specs.Evidence.{ShowsEvent}

-- an entry of a turn of thread 0 of slot 1 that loads word 1
abbrev pub load_entry : Option Event → Entry
load_entry told = record {
  directive = directive.Turn 1 0;
  call = Some (call.Load 1 1);
  outcome = outcome.Step (reply.Word 7);
  event = told;
}

abbrev pub end_entry : Entry
end_entry = record { directive = directive.End 1; call = None; outcome = outcome.Ended 2; event = None }

-- an entry that doesn't ask for a process finds no slot wanting
no_slot : {A : Type 0} → (x : Seen A) → x.entry.call ≡ Some (call.Load 1 1) → FindsNoSlot 2 x → ⊥
no_slot x loads h = false≢true (ap is_create (sym loads ∙ h.asks))

no_slot_twice : {A : Type 0} → (x y : Seen A) → x.entry.call ≡ Some (call.Load 1 1)
    → y.entry.call ≡ Some (call.Load 1 1) → SomeSeen (FindsNoSlot 2) (x ∷ y ∷ []) → ⊥
no_slot_twice x y a b (inl h) = no_slot x a h
no_slot_twice x y a b (inr (inl h)) = no_slot y b h
no_slot_twice x y a b (inr (inr h)) = absurd h

module _ {A : Type 0} (m : Moment A) where
  abbrev pub saw : Option Event → Seen A
  saw told = record { before = m; entry = load_entry told }

  abbrev pub saw_end : Seen A
  saw_end = record { before = m; entry = end_entry }

  -- what stands after the previous own event of 2 is in its call; a death and another's event don't end it
  pub in_call : seen_in_call 2 (saw None ∷ saw (Some (event.Notify 2)) ∷ saw (Some (event.Block 3))
      ∷ saw (Some (event.Block 2)) ∷ saw None ∷ [])
      ≡ saw None ∷ saw (Some (event.Notify 2)) ∷ saw (Some (event.Block 3)) ∷ []
  in_call = refl

  -- entries count from 1, the first one at the end of the list
  pub second : seen_at (saw None ∷ saw_end ∷ saw (Some (event.Block 2)) ∷ []) 2 ≡ Some saw_end
  second = refl

  pub no_entry_0 : seen_at (saw None ∷ saw_end ∷ []) 0 ≡ None
  no_entry_0 = refl

  pub in_order : entries_of (saw None ∷ saw_end ∷ []) ≡ end_entry ∷ load_entry None ∷ []
  in_order = refl

  pub told_in_order : events_of (saw (Some (event.Block 2)) ∷ saw None ∷ saw (Some (event.Return 2)) ∷ [])
      ≡ event.Return 2 ∷ event.Block 2 ∷ []
  told_in_order = refl

  pub ended_2 : was_ended (saw None ∷ saw_end ∷ []) 2 ≡ true
  ended_2 = refl

  pub not_ended_3 : was_ended (saw None ∷ saw_end ∷ []) 3 ≡ false
  not_ended_3 = refl

  -- a fork that is refused for want of a slot without asking for one has no evidence
  pub fork_always_refused : (script : Script) → ShowsEvent script
      (record {
        past = saw None ∷ [];
        before = m;
        entry = load_entry (Some (event.ForkFail 2 fork_cause.Slot));
        after = m;
      })
      (event.ForkFail 2 fork_cause.Slot) → ⊥
  fork_always_refused script h = no_slot_twice (saw (Some (event.ForkFail 2 fork_cause.Slot))) (saw None) refl refl h.1
