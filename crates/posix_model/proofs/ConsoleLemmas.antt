-- Lemmas of the console's call.
use Rattle.std.proofs.Common.{◌≡◌, ℕ, true, false, cond, ◌&&◌, nat_eq, Option, Some, None, refl, ◌∙◌, ap}
use Rattle.std.proofs.Common.{option_map}
use Rattle.std.proofs.lemmas.Option.{same_Some}
use Rattle.std.specs.FinSet as set
use Rattle.posix_spec.specs.GroupCalls.{with_step}
use Rattle.posix_spec.specs.Pending.{is_stopped}
use Rattle.posix_spec.specs.Records.{changed_at, change_record}
use Rattle.posix_spec.specs.Sending.{owed_more, owed_for, generated, sent}
use Rattle.posix_spec.specs.Signals.{continue_signal}
use Rattle.posix_spec.specs.State as spec
use Rattle.posix_spec.specs.State.{Numbers, Record, PosixState, record_of}
use Rattle.posix_model.specs.declared.process.GroupCall.{GroupCall}
use Rattle.posix_model.specs.Shown.{group_call_of}

changed_console : (s : PosixState) (p : ℕ) (f : Record → Record) (o : Option Record) → (changed_at s p f o).console ≡
    s.console
changed_console s p f None = refl
changed_console s p f (Some r) = refl

owed_console : (signal : ℕ) (o : Option Record) (s : PosixState) → (owed_for signal o s).console ≡ s.console
owed_console signal None s = refl
owed_console signal (Some r) s =
    elim (nat_eq signal continue_signal && is_stopped r.life) as (λ b. (cond b (change_record s r.parent owed_more)
    s).console ≡ s.console) [
      | true ↦ changed_console s r.parent owed_more (record_of s r.parent)
      | false ↦ refl
    ]

-- a signal leaves the console's call as it is
pub sent_console : (s : PosixState) (q signal : ℕ) → (sent s q signal).console ≡ s.console
sent_console s q signal =
    owed_console signal (record_of s q) (change_record s q (generated signal)) ∙ changed_console s q (generated
    signal) (record_of s q)

-- a member more has had its step
pub stepped : (o : Option GroupCall) (before after : Numbers) (call : spec.GroupCall) (q : ℕ) →
    option_map (λ x. group_call_of x before) o ≡ Some call → after ≡ set.insert before q →
    option_map (λ x. group_call_of x after) o ≡ Some (with_step call q)
stepped None before after call q e h = cc
stepped (Some x) before after call q e h =
    ap (λ (m : Numbers). Some (group_call_of x m)) h ∙ ap (λ (c : spec.GroupCall). Some (with_step c q)) (same_Some _
    _ e)
