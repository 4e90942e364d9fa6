-- A world whose threads all rest: it begins for every valid script, and every directive leads from it to one. So what
-- the parts owe can be given, and the law of a directive isn't empty.
use Rattle.std.proofs.Common.{◌≡◌, ℕ, List, [], Option, None, refl, sym, ap, subst, if◌then◌else◌}
use Rattle.w32_base.specs.Part.{KeepsLengths}
use Rattle.w32_base.specs.declared.call.Call.{Call}
use Rattle.w32_base.specs.declared.call.Call.TheVariants as call
use Rattle.w32_base.specs.declared.call.Reply.{Reply}
use Rattle.w32_base.specs.declared.entry.Directive.{Directive}
use Rattle.w32_base.specs.declared.entry.Outcome.{Outcome}
use Rattle.w32_base.specs.declared.own.Own.{Own}
use Rattle.w32_base.specs.declared.part.After.{After}
use Rattle.w32_base.specs.declared.setup.Setup.{Setup}
use Rattle.script_spec.specs.declared.script.Script.{Script}
use Rattle.script_spec.specs.Validity.{IsValid}
use Rattle.win32_spec.specs.Driven.{DrivenState, DrivenBy, IsDrivenOpening}
use Rattle.win32_spec.specs.Making.{opening_call}
use Rattle.win32_spec.specs.ValidLaws.{registers-valid}
use Rattle.posix_spec.specs.Opening.{opening_of}
use Rattle.posix_spec.specs.ValidLaws.{HasRanges-valid}
use Rattle.layer_spec.specs.History.{driven_at}
use Rattle.layer_spec.specs.Moment.{Moment, Seen}
use Rattle.world_spec.specs.Resting.{Resting, resting_posted, RestingGoes, IsRestingOpening, RestingClause}
use Rattle.world_spec.specs.RestingLaws.{resting_owes}
use Rattle.world_spec.specs.Sound.{HasSpare}
use Rattle.world_spec.specs.SeenStep.{IsTaken}
use Rattle.world_spec.specs.World.{IsWorld, GoesOn}
use Rattle.world_spec.specs.WorldLaws.{world-goes}
use Rattle.world_spec.specs.WorldOpening.{world-opens}

abbrev pub resting_slot : Resting → ℕ
resting_slot p = p.slot

abbrev pub resting_thread : Resting → ℕ
resting_thread p = p.thread

-- what was seen is a history up to now of threads that all rest
abbrev pub IsRestingWorld : Script → List (Seen Resting) → Moment Resting → Type 0
IsRestingWorld script past now =
    IsWorld resting_posted RestingGoes IsRestingOpening resting_slot resting_thread RestingClause script past now

pub resting_begins : (p : Resting) → IsRestingOpening p → resting_posted p ≡ opening_call
resting_begins p e = ap (λ b. if b then call.WaitAny [] else opening_call) e

pub resting_lengths : (p q : Resting) (o n : Own) (s : Setup) (r : Reply) (a : After) → RestingGoes p o s r q n a
    → KeepsLengths o n
resting_lengths p q o n s r a went =
    subst (λ x. KeepsLengths o x) (sym went.own)
    (record { dat = refl; heap = refl; stack = refl; cyg = refl; scratch = refl })

pub resting-opens : (script : Script) (now : Moment Resting) → IsValid script
    → IsDrivenOpening resting_posted RestingGoes IsRestingOpening resting_slot resting_thread script
    (driven_at now None)
    → now.posix ≡ opening_of script → IsRestingWorld script [] now
resting-opens script now valid driven opened =
    world-opens resting_posted RestingGoes IsRestingOpening resting_slot resting_thread RestingClause resting_begins
    script
    (resting_owes script) now valid driven opened

pub resting-goes : (script : Script) (past : List (Seen Resting)) (now : Moment Resting) → IsValid script
    → IsRestingWorld script past now → (d : Directive) (called : Option Call) (came : Outcome)
    (new : DrivenState Resting)
    → IsTaken d → HasSpare script past
    → DrivenBy resting_posted RestingGoes IsRestingOpening resting_slot resting_thread script
    (driven_at now None) d called
    came new
    → GoesOn resting_posted RestingGoes IsRestingOpening resting_slot resting_thread RestingClause script past now d
    called
    came new
resting-goes script past now valid world d called came new taken spare driven =
    world-goes resting_posted RestingGoes IsRestingOpening resting_slot resting_thread RestingClause resting_begins
    (λ p q o n s r a went. ap resting_slot went.part) (λ p q o n s r a went. ap resting_thread went.part)
    resting_lengths
    script (registers-valid script valid) (HasRanges-valid script valid)
    (resting_owes script) past now world d called came new taken spare driven
