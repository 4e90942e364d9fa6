-- What a contract sees of a machine that is driven by parts.
use Rattle.std.specs.Prelude.{◌≡◌, ◌≢◌, ◌⊎◌, ℕ, Option, Some, length, MatchBool}
use Rattle.w32_base.specs.declared.call.Call.{Call}
use Rattle.w32_base.specs.declared.call.Call.TheVariants as call
use Rattle.w32_base.specs.declared.call.Reply.{Reply}
use Rattle.w32_base.specs.declared.event.Event.{Event}
use Rattle.w32_base.specs.declared.own.Own.{Own}
use Rattle.w32_base.specs.declared.part.After.{After}
use Rattle.w32_base.specs.declared.setup.Setup.{Setup}
use Rattle.script_spec.specs.declared.script.Script.{Script}
use Rattle.win32_spec.specs.State.{Win32State}
use Rattle.win32_spec.specs.Lookup.{thread_at, number_in}
use Rattle.win32_spec.specs.Call.{CallStep}
use Rattle.win32_spec.specs.MemoryEffects.{HaveRegisters}
use Rattle.win32_spec.specs.Driven.{Parts, part_at, DrivenState, AreServed, OpensPart, is_same_number, PartGoes}
use Rattle.w32_machine.specs.declared.caller.Caller.{Caller}
use Rattle.w32_machine.specs.Running.{Running}

-- the script that it runs, and its state with the parts and the event of its last turn
pub record Driving (P : Type 0) : Type 0 where
  pub script : Script
  pub state : DrivenState P

module _ {P : Type 0} (posted_of : P → Call) (goes : P → Own → Setup → Reply → P → Own → After → Type 0)
    (opening : P → Type 0) (slot_of thread_of_part : P → ℕ) where
  -- What holds of it at all times: each thread's posted call is that of its part, which serves that thread, and there
  -- are three places for parts in each of 65 slots.
  pub record IsServing (now : Running) (parts : Parts P) : Type 0 where
    pub served : AreServed posted_of goes opening slot_of thread_of_part now.win32 parts
    pub places : length parts ≡ 195
    pub registers : HaveRegisters now.script

  -- the parts of a slot after a step from a state in which it had this process, or none
  abbrev pub SlotFollows : Option ℕ → Win32State → Parts P → Parts P → ℕ → Type 0
  SlotFollows before new parts after slot = (t : ℕ)
      → MatchBool (is_same_number before (number_in new slot)) (part_at after slot t ≡ part_at parts slot t)
      (OpensPart posted_of goes opening slot_of thread_of_part (thread_at new slot t) slot t (part_at after slot t))

  -- each part of a slot is as it is opened, and there is one for each of its threads
  abbrev pub OpensSlot : Win32State → Parts P → ℕ → Type 0
  OpensSlot new after slot = (t : ℕ)
      → OpensPart posted_of goes opening slot_of thread_of_part (thread_at new slot t) slot t (part_at after slot t)

  -- the same of each slot
  abbrev pub OpensAll : Win32State → Parts P → Type 0
  OpensAll new after = (slot : ℕ) → OpensSlot new after slot

  -- the part at a place goes on with a reply
  pub record GoesOn (script : Script) (mid : Win32State) (parts : Parts P) (slot t w : ℕ) (reply : Reply)
      (event : Option Event) (new : Win32State) (after : Parts P) : Type 0 where
    pub part : P
    pub next : P
    pub was : part_at parts slot t ≡ Some part
    pub went : PartGoes posted_of goes opening slot_of thread_of_part script mid w t part reply event next new
    pub here : part_at after slot t ≡ Some next
    pub others : (k u : ℕ) → (k ≢ slot) ⊎ (u ≢ t) → part_at after k u ≡ part_at parts k u

-- the parts of all other slots stay
abbrev pub OtherSlotsStay : {P : Type 0} → Parts P → Parts P → ℕ → Type 0
OtherSlotsStay parts after slot = (k t : ℕ) → k ≢ slot → part_at after k t ≡ part_at parts k t

abbrev pub IsCreate : Call → Type 0
IsCreate (call.Create program_no list) = Unit {0}
IsCreate _ = ⊥

-- whatever the call answers, each other slot keeps its process
abbrev pub EndsOnlyIn : Script → Win32State → Caller → Call → ℕ → Type 0
EndsOnlyIn script s by c slot = (r : Reply) (new : Win32State) → CallStep script s by.process by.thread c r new
    → (k : ℕ) → k ≢ slot → number_in new k ≡ number_in s k
