-- What a call does to the object that a handle names is what it does to the state.
use Rattle.std.proofs.Common.{◌≡◌, ◌∙◌, ℕ, Bool, true, false, if◌then◌else◌, Option, Some, MatchOption, MatchBool}
use Rattle.std.proofs.Common.{sym, ap, subst}
use Rattle.w32_base.specs.declared.call.Reply.{Reply}
use Rattle.w32_base.specs.declared.call.Reply.TheVariants as reply
use Rattle.win32_spec.specs.Objects.{event_set, event_reset, Ownership, Free, is_owner}
use Rattle.win32_spec.specs.Objects.{exchanged, added}
use Rattle.win32_spec.specs.State.{Object, Section, Event, Mutex, Win32State}
use Rattle.win32_spec.specs.Lookup.{with_object}
use Rattle.win32_spec.specs.Named.{object_number_by, object_by, section_named, event_named, mutex_named, Gives}
use Rattle.win32_spec.specs.WordCalls.{word_reply, after_exchange, after_add, ExchangeStep, AddStep}
use Rattle.win32_spec.specs.ObjectCalls.{SetStep, ResetStep, ReleaseStep}
use Rattle.w32_kinds.specs.declared.kind.Kind.{Kind}
use Rattle.w32_kinds.specs.declared.kind.Kind.TheVariants as kind
use Rattle.w32_kinds.specs.Kinds.{Exchanges, Increases, Sets, Resets, Releases}
use Rattle.w32_kinds.specs.Shown.{shown}
use Rattle.w32_machine.specs.Sound.{IsKind}
use Rattle.w32_machine.proofs.Changing.{KeepsKind}

-- an object that a call refuses stays
pub same-keeps : (x y : Kind) → y ≡ x → KeepsKind x y
same-keeps x y e slots ps section o k = subst (IsKind slots ps section o) (sym e) k

-- The object under number n, which is what the handle names, is x before the call and y after it.
module _ (s new : Win32State) (w h n : ℕ) (number : object_number_by s w h ≡ n) (y : Kind) (r : Reply)
    (after : new ≡ with_object s n (shown y)) where
  its_object : (z : Object) → shown y ≡ z → new ≡ with_object s (object_number_by s w h) z
  its_object z e = after ∙ ap (with_object s n) e ∙ ap (λ i. with_object s i z) (sym number)

  pub exchange-step : (i old next : ℕ) (x : Kind) → object_by s w h ≡ Some (shown x) → (y ≡ x → new ≡ s)
      → Exchanges i old next x r y → ExchangeStep s w h i old next r new
  exchange-step i old next x is same did =
      subst (λ (o : Option Object). Gives (word_reply (section_named o) i)
      (after_exchange s w h (section_named o) i old next) r new) (sym is) (by_kind x same did)
    where
      by_kind : (k : Kind) → (y ≡ k → new ≡ s) → Exchanges i old next k r y
          → Gives (word_reply (section_named (Some (shown k))) i)
          (after_exchange s w h (section_named (Some (shown k))) i old next) r new
      by_kind (kind.Section words) same d =
          (d.0, its_object (Section (exchanged words i old next)) (ap shown d.1))
      by_kind (kind.Event e) same d = (d.0, same d.1)
      by_kind (kind.Mutex owner) same d = (d.0, same d.1)
      by_kind (kind.Pipe p) same d = (d.0, same d.1)
      by_kind (kind.Process v slot) same d = (d.0, same d.1)
      by_kind (kind.Terminal terminal) same d = (d.0, same d.1)

  pub add-step : (i more : ℕ) (x : Kind) → object_by s w h ≡ Some (shown x) → (y ≡ x → new ≡ s)
      → Increases i more x r y → AddStep s w h i more r new
  add-step i more x is same did =
      subst (λ (o : Option Object). Gives (word_reply (section_named o) i)
      (after_add s w h (section_named o) i more) r new) (sym is) (by_kind x same did)
    where
      by_kind : (k : Kind) → (y ≡ k → new ≡ s) → Increases i more k r y
          → Gives (word_reply (section_named (Some (shown k))) i)
          (after_add s w h (section_named (Some (shown k))) i more) r new
      by_kind (kind.Section words) same d = (d.0, its_object (Section (added words i more)) (ap shown d.1))
      by_kind (kind.Event e) same d = (d.0, same d.1)
      by_kind (kind.Mutex owner) same d = (d.0, same d.1)
      by_kind (kind.Pipe p) same d = (d.0, same d.1)
      by_kind (kind.Process v slot) same d = (d.0, same d.1)
      by_kind (kind.Terminal terminal) same d = (d.0, same d.1)

  pub set-step : (x : Kind) → object_by s w h ≡ Some (shown x) → (y ≡ x → new ≡ s) → Sets x r y → SetStep s w h r new
  set-step x is same did =
      subst (λ (o : Option Object). MatchOption (event_named o) (Gives reply.BadHandle s r new) (λ e.
      Gives reply.Done (with_object s (object_number_by s w h) (Event (event_set e))) r new)) (sym is)
      (by_kind x same did)
    where
      by_kind : (k : Kind) → (y ≡ k → new ≡ s) → Sets k r y
          → MatchOption (event_named (Some (shown k))) (Gives reply.BadHandle s r new) (λ e.
          Gives reply.Done (with_object s (object_number_by s w h) (Event (event_set e))) r new)
      by_kind (kind.Event e) same d = (d.0, its_object (Event (event_set e)) (ap shown d.1))
      by_kind (kind.Section words) same d = (d.0, same d.1)
      by_kind (kind.Mutex owner) same d = (d.0, same d.1)
      by_kind (kind.Pipe p) same d = (d.0, same d.1)
      by_kind (kind.Process v slot) same d = (d.0, same d.1)
      by_kind (kind.Terminal terminal) same d = (d.0, same d.1)

  pub reset-step : (x : Kind) → object_by s w h ≡ Some (shown x) → (y ≡ x → new ≡ s) → Resets x r y
      → ResetStep s w h r new
  reset-step x is same did =
      subst (λ (o : Option Object). MatchOption (event_named o) (Gives reply.BadHandle s r new) (λ e.
      Gives reply.Done (with_object s (object_number_by s w h) (Event (event_reset e))) r new)) (sym is)
      (by_kind x same did)
    where
      by_kind : (k : Kind) → (y ≡ k → new ≡ s) → Resets k r y
          → MatchOption (event_named (Some (shown k))) (Gives reply.BadHandle s r new) (λ e.
          Gives reply.Done (with_object s (object_number_by s w h) (Event (event_reset e))) r new)
      by_kind (kind.Event e) same d = (d.0, its_object (Event (event_reset e)) (ap shown d.1))
      by_kind (kind.Section words) same d = (d.0, same d.1)
      by_kind (kind.Mutex owner) same d = (d.0, same d.1)
      by_kind (kind.Pipe p) same d = (d.0, same d.1)
      by_kind (kind.Process v slot) same d = (d.0, same d.1)
      by_kind (kind.Terminal terminal) same d = (d.0, same d.1)

  -- what `release` gives for the object of a handle
  abbrev Released : ℕ → Option Object → Type 0
  Released t o = MatchOption (mutex_named o) (Gives reply.BadHandle s r new) (λ owner.
      MatchBool (is_owner owner w t)
      (Gives reply.Done (with_object s (object_number_by s w h) (Mutex Free)) r new)
      (Gives reply.NotOwner s r new))

  pub release-step : (t : ℕ) (x : Kind) → object_by s w h ≡ Some (shown x) → (y ≡ x → new ≡ s) → Releases w t x r y
      → ReleaseStep s w t h r new
  release-step t x is same did = subst (Released t) (sym is) (by_kind x same did)
    where
      by_test : (owner : Ownership) (b : Bool) → (y ≡ kind.Mutex owner → new ≡ s)
          → r ≡ (if b then reply.Done else reply.NotOwner) → y ≡ kind.Mutex (if b then Free else owner)
          → MatchBool b (Gives reply.Done (with_object s (object_number_by s w h) (Mutex Free)) r new)
          (Gives reply.NotOwner s r new)
      by_test owner true same a b = (a, its_object (Mutex Free) (ap shown b))
      by_test owner false same a b = (a, same b)

      by_kind : (k : Kind) → (y ≡ k → new ≡ s) → Releases w t k r y → Released t (Some (shown k))
      by_kind (kind.Mutex owner) same d = by_test owner (is_owner owner w t) same d.0 d.1
      by_kind (kind.Event e) same d = (d.0, same d.1)
      by_kind (kind.Section words) same d = (d.0, same d.1)
      by_kind (kind.Pipe p) same d = (d.0, same d.1)
      by_kind (kind.Process v slot) same d = (d.0, same d.1)
      by_kind (kind.Terminal terminal) same d = (d.0, same d.1)

-- What the code keeps of an object stays in each of these calls.
pub exchange-keeps : (i old next : ℕ) (x : Kind) (r : Reply) (y : Kind) → Exchanges i old next x r y → KeepsKind x y
exchange-keeps i old next (kind.Section words) r y d = λ slots ps section o k. subst (IsKind slots ps section o) (sym
    d.1) k
exchange-keeps i old next (kind.Event e) r y d = same-keeps (kind.Event e) y d.1
exchange-keeps i old next (kind.Mutex owner) r y d = same-keeps (kind.Mutex owner) y d.1
exchange-keeps i old next (kind.Pipe p) r y d = same-keeps (kind.Pipe p) y d.1
exchange-keeps i old next (kind.Process v slot) r y d = same-keeps (kind.Process v slot) y d.1
exchange-keeps i old next (kind.Terminal terminal) r y d = same-keeps (kind.Terminal terminal) y d.1

pub add-keeps : (i more : ℕ) (x : Kind) (r : Reply) (y : Kind) → Increases i more x r y → KeepsKind x y
add-keeps i more (kind.Section words) r y d = λ slots ps section o k. subst (IsKind slots ps section o) (sym d.1) k
add-keeps i more (kind.Event e) r y d = same-keeps (kind.Event e) y d.1
add-keeps i more (kind.Mutex owner) r y d = same-keeps (kind.Mutex owner) y d.1
add-keeps i more (kind.Pipe p) r y d = same-keeps (kind.Pipe p) y d.1
add-keeps i more (kind.Process v slot) r y d = same-keeps (kind.Process v slot) y d.1
add-keeps i more (kind.Terminal terminal) r y d = same-keeps (kind.Terminal terminal) y d.1

pub set-keeps : (x : Kind) (r : Reply) (y : Kind) → Sets x r y → KeepsKind x y
set-keeps (kind.Event e) r y d = λ slots ps section o k. subst (IsKind slots ps section o) (sym d.1) tt
set-keeps (kind.Section words) r y d = same-keeps (kind.Section words) y d.1
set-keeps (kind.Mutex owner) r y d = same-keeps (kind.Mutex owner) y d.1
set-keeps (kind.Pipe p) r y d = same-keeps (kind.Pipe p) y d.1
set-keeps (kind.Process v slot) r y d = same-keeps (kind.Process v slot) y d.1
set-keeps (kind.Terminal terminal) r y d = same-keeps (kind.Terminal terminal) y d.1

pub reset-keeps : (x : Kind) (r : Reply) (y : Kind) → Resets x r y → KeepsKind x y
reset-keeps (kind.Event e) r y d = λ slots ps section o k. subst (IsKind slots ps section o) (sym d.1) tt
reset-keeps (kind.Section words) r y d = same-keeps (kind.Section words) y d.1
reset-keeps (kind.Mutex owner) r y d = same-keeps (kind.Mutex owner) y d.1
reset-keeps (kind.Pipe p) r y d = same-keeps (kind.Pipe p) y d.1
reset-keeps (kind.Process v slot) r y d = same-keeps (kind.Process v slot) y d.1
reset-keeps (kind.Terminal terminal) r y d = same-keeps (kind.Terminal terminal) y d.1

pub release-keeps : (w t : ℕ) (x : Kind) (r : Reply) (y : Kind) → Releases w t x r y → KeepsKind x y
release-keeps w t (kind.Mutex owner) r y d = λ slots ps section o k. subst (IsKind slots ps section o) (sym d.1) tt
release-keeps w t (kind.Section words) r y d = same-keeps (kind.Section words) y d.1
release-keeps w t (kind.Event e) r y d = same-keeps (kind.Event e) y d.1
release-keeps w t (kind.Pipe p) r y d = same-keeps (kind.Pipe p) y d.1
release-keeps w t (kind.Process v slot) r y d = same-keeps (kind.Process v slot) y d.1
release-keeps w t (kind.Terminal terminal) r y d = same-keeps (kind.Terminal terminal) y d.1
