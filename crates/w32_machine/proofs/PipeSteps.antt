-- What a call does to the pipe that a handle names is what it does to the state.
use Rattle.std.proofs.Common.{◌≡◌, ◌∙◌, ℕ, ◌+◌, Bool, true, false, if◌then◌else◌, nat_eq, nat_lt, ◌++◌, [], ◌∷◌, length}
use Rattle.std.proofs.Common.{List, Option, Some, None, MatchOption, refl, sym, ap, subst}
use Rattle.w32_base.specs.declared.call.Reply.{Reply}
use Rattle.w32_base.specs.declared.call.Reply.TheVariants as reply
use Rattle.win32_spec.specs.Objects.{PipeState, put_reply, put_after, get_reply, get_after}
use Rattle.win32_spec.specs.State.{Object, Pipe, Win32State}
use Rattle.win32_spec.specs.Lookup.{with_object}
use Rattle.win32_spec.specs.Named.{named_by, object_number_by, object_by, pipe_named, section_named, Gives}
use Rattle.win32_spec.specs.ObjectCalls.{at_read_end, at_write_end, pipe_by, PutStep, GetStep}
use Rattle.win32_spec.specs.Pipes.{all_holders_of, pipe_state}
use Rattle.win32_spec.specs.Ready.{is_first_end}
use Rattle.win32_spec.specs.WordCalls.{word_reply, LoadStep}
use Rattle.w32_process.specs.Places.{Place}
use Rattle.w32_sync.specs.declared.PipeEnd.{PipeEnd}
use Rattle.w32_sync.specs.declared.PipeEnd.TheVariants.{Read, Write}
use Rattle.w32_kinds.specs.declared.kind.Kind.{Kind}
use Rattle.w32_kinds.specs.declared.kind.Kind.TheVariants as kind
use Rattle.w32_kinds.specs.Kinds.{Loads, Puts, Gets}
use Rattle.w32_kinds.specs.Shown.{shown}
use Rattle.w32_machine.specs.Sound.{IsKind}
use Rattle.w32_machine.proofs.Changing.{KeepsKind}
use Rattle.w32_machine.proofs.KindSteps.{same-keeps}

pub load-step : (s : Win32State) (w h i : ℕ) (r : Reply) (x : Kind) → object_by s w h ≡ Some (shown x) → Loads i x r
    → LoadStep s w h i r s
load-step s w h i r x is did =
    (subst (λ (o : Option Object). r ≡ word_reply (section_named o) i) (sym is) (by_kind x did), refl)
  where
    by_kind : (k : Kind) → Loads i k r → r ≡ word_reply (section_named (Some (shown k))) i
    by_kind (kind.Section words) d = d
    by_kind (kind.Event e) d = d
    by_kind (kind.Mutex owner) d = d
    by_kind (kind.Pipe p) d = d
    by_kind (kind.Process v slot) d = d
    by_kind (kind.Terminal terminal) d = d

-- the end that a number names
abbrev pub end_named : ℕ → PipeEnd
end_named o = if is_first_end o then Read else Write

-- a pipe that counts the handles of the state is the state's
counted-pipe : (s : Win32State) (n : ℕ) (p : PipeState) → p.readers ≡ all_holders_of s.processes n
    → p.writers ≡ all_holders_of s.processes (n + 1) → p ≡ pipe_state s n p.bytes
counted-pipe s n p a b =
    ap (λ (i : ℕ). record p { readers = i }) a
    ∙ ap (λ (j : ℕ). record p { readers = all_holders_of s.processes n; writers = j }) b

module _ (s new : Win32State) (w h o n : ℕ) (named : named_by s w h ≡ Some o) (number : object_number_by s w h ≡ n)
    (y : Kind) (r : Reply) (after : new ≡ with_object s n (shown y)) where
  its_pipe : (q : PipeState) → y ≡ kind.Pipe q → new ≡ with_object s (object_number_by s w h) (Pipe q.bytes)
  its_pipe q e = after ∙ ap (λ k. with_object s n (shown k)) e
      ∙ ap (λ i. with_object s i (Pipe q.bytes)) (sym number)

  pipe_here : (p : PipeState) → p ≡ pipe_state s n p.bytes → p ≡ pipe_by s w h p.bytes
  pipe_here p counted = counted ∙ ap (λ i. pipe_state s i p.bytes) (sym number)

  -- what `put` gives for the end and the object of a handle
  abbrev Put : ℕ → Option ℕ → Option Object → Type 0
  Put b names x = MatchOption (at_write_end names (pipe_named x)) (Gives reply.BadHandle s r new) (λ bytes.
      Gives (put_reply (pipe_by s w h bytes))
      (with_object s (object_number_by s w h) (Pipe (put_after (pipe_by s w h bytes) b).bytes)) r new)

  pub put-step : (b : ℕ) (x : Kind) → object_by s w h ≡ Some (shown x)
      → ((p : PipeState) → x ≡ kind.Pipe p → p ≡ pipe_state s n p.bytes) → (y ≡ x → new ≡ s)
      → Puts (end_named o) b x r y → PutStep s w h b r new
  put-step b x is counted same did =
      subst (λ names. Put b names (object_by s w h)) (sym named) (subst (Put b (Some o)) (sym is)
      (by_end (is_first_end o) refl x counted same did))
    where
      other : (k : Kind) (d : Bool) → pipe_named (Some (shown k)) ≡ None → (r ≡ reply.BadHandle) × (new ≡ s)
          → MatchOption (if d then None else pipe_named (Some (shown k))) (Gives reply.BadHandle s r new) (λ bytes.
          Gives (put_reply (pipe_by s w h bytes))
          (with_object s (object_number_by s w h) (Pipe (put_after (pipe_by s w h bytes) b).bytes)) r new)
      other k true none g = g
      other k false none g = rw none g

      by_end : (d : Bool) → is_first_end o ≡ d → (k : Kind)
          → ((p : PipeState) → k ≡ kind.Pipe p → p ≡ pipe_state s n p.bytes) → (y ≡ k → new ≡ s)
          → Puts (if d then Read else Write) b k r y
          → MatchOption (if d then None else pipe_named (Some (shown k))) (Gives reply.BadHandle s r new) (λ bytes.
          Gives (put_reply (pipe_by s w h bytes))
          (with_object s (object_number_by s w h) (Pipe (put_after (pipe_by s w h bytes) b).bytes)) r new)
      by_end true e (kind.Pipe p) counted same d = (d.0, same d.1)
      by_end false e (kind.Pipe p) counted same d =
          let here = pipe_here p (counted p refl) in (
            d.0 ∙ ap put_reply here,
            its_pipe (put_after p b) d.1
                ∙ ap (λ (q : PipeState). with_object s (object_number_by s w h) (Pipe (put_after q b).bytes)) here,
          )
      by_end t e (kind.Section words) counted same d = other (kind.Section words) t refl (d.0, same d.1)
      by_end t e (kind.Event v) counted same d = other (kind.Event v) t refl (d.0, same d.1)
      by_end t e (kind.Mutex owner) counted same d = other (kind.Mutex owner) t refl (d.0, same d.1)
      by_end t e (kind.Process v slot) counted same d = other (kind.Process v slot) t refl (d.0, same d.1)
      by_end t e (kind.Terminal terminal) counted same d = other (kind.Terminal terminal) t refl (d.0, same d.1)

  -- what `get` gives for the end and the object of a handle
  abbrev Got : Option ℕ → Option Object → Type 0
  Got names x = MatchOption (at_read_end names (pipe_named x)) (Gives reply.BadHandle s r new) (λ bytes.
      Gives (get_reply (pipe_by s w h bytes).bytes (pipe_by s w h bytes).writers)
      (with_object s (object_number_by s w h) (Pipe (get_after (pipe_by s w h bytes)).bytes)) r new)

  pub get-step : (x : Kind) → object_by s w h ≡ Some (shown x)
      → ((p : PipeState) → x ≡ kind.Pipe p → p ≡ pipe_state s n p.bytes) → (y ≡ x → new ≡ s)
      → Gets (end_named o) x r y → GetStep s w h r new
  get-step x is counted same did =
      subst (λ names. Got names (object_by s w h)) (sym named) (subst (Got (Some o)) (sym is)
      (by_end (is_first_end o) refl x counted same did))
    where
      other : (k : Kind) (d : Bool) → pipe_named (Some (shown k)) ≡ None → (r ≡ reply.BadHandle) × (new ≡ s)
          → MatchOption (if d then pipe_named (Some (shown k)) else None) (Gives reply.BadHandle s r new) (λ bytes.
          Gives (get_reply (pipe_by s w h bytes).bytes (pipe_by s w h bytes).writers)
          (with_object s (object_number_by s w h) (Pipe (get_after (pipe_by s w h bytes)).bytes)) r new)
      other k true none g = rw none g
      other k false none g = g

      by_end : (d : Bool) → is_first_end o ≡ d → (k : Kind)
          → ((p : PipeState) → k ≡ kind.Pipe p → p ≡ pipe_state s n p.bytes) → (y ≡ k → new ≡ s)
          → Gets (if d then Read else Write) k r y
          → MatchOption (if d then pipe_named (Some (shown k)) else None) (Gives reply.BadHandle s r new) (λ bytes.
          Gives (get_reply (pipe_by s w h bytes).bytes (pipe_by s w h bytes).writers)
          (with_object s (object_number_by s w h) (Pipe (get_after (pipe_by s w h bytes)).bytes)) r new)
      by_end false e (kind.Pipe p) counted same d = (d.0, same d.1)
      by_end true e (kind.Pipe p) counted same d =
          let here = pipe_here p (counted p refl) in (
            d.0 ∙ ap (λ (q : PipeState). get_reply q.bytes q.writers) here,
            its_pipe (get_after p) d.1
                ∙ ap (λ (q : PipeState). with_object s (object_number_by s w h) (Pipe (get_after q).bytes)) here,
          )
      by_end t e (kind.Section words) counted same d = other (kind.Section words) t refl (d.0, same d.1)
      by_end t e (kind.Event v) counted same d = other (kind.Event v) t refl (d.0, same d.1)
      by_end t e (kind.Mutex owner) counted same d = other (kind.Mutex owner) t refl (d.0, same d.1)
      by_end t e (kind.Process v slot) counted same d = other (kind.Process v slot) t refl (d.0, same d.1)
      by_end t e (kind.Terminal terminal) counted same d = other (kind.Terminal terminal) t refl (d.0, same d.1)

put_after-ends : (p : PipeState) (b : ℕ) → ((put_after p b).readers ≡ p.readers) × ((put_after p b).writers ≡ p.writers)
put_after-ends p b = by_tests (nat_eq p.readers 0) (nat_lt (length p.bytes) 64)
  where
    by_tests : (c d : Bool)
        → ((if c then p else if d then record p { bytes = p.bytes ++ b ∷ [] } else p).readers ≡ p.readers)
        × ((if c then p else if d then record p { bytes = p.bytes ++ b ∷ [] } else p).writers ≡ p.writers)
    by_tests true d = (refl, refl)
    by_tests false true = (refl, refl)
    by_tests false false = (refl, refl)

pub put-keeps : (e : PipeEnd) (b : ℕ) (x : Kind) (r : Reply) (y : Kind) → Puts e b x r y → KeepsKind x y
put-keeps Write b (kind.Pipe p) r y d = λ slots ps section o k.
    let ends = put_after-ends p b in subst (IsKind slots ps section o) (sym d.1) (ends.0 ∙ k.0, ends.1 ∙ k.1)
put-keeps Read b (kind.Pipe p) r y d = same-keeps (kind.Pipe p) y d.1
put-keeps e b (kind.Section words) r y d = same-keeps (kind.Section words) y d.1
put-keeps e b (kind.Event v) r y d = same-keeps (kind.Event v) y d.1
put-keeps e b (kind.Mutex owner) r y d = same-keeps (kind.Mutex owner) y d.1
put-keeps e b (kind.Process v slot) r y d = same-keeps (kind.Process v slot) y d.1
put-keeps e b (kind.Terminal terminal) r y d = same-keeps (kind.Terminal terminal) y d.1

pub get-keeps : (e : PipeEnd) (x : Kind) (r : Reply) (y : Kind) → Gets e x r y → KeepsKind x y
get-keeps Read (kind.Pipe p) r y d = λ slots ps section o k. subst (IsKind slots ps section o) (sym d.1) k
get-keeps Write (kind.Pipe p) r y d = same-keeps (kind.Pipe p) y d.1
get-keeps e (kind.Section words) r y d = same-keeps (kind.Section words) y d.1
get-keeps e (kind.Event v) r y d = same-keeps (kind.Event v) y d.1
get-keeps e (kind.Mutex owner) r y d = same-keeps (kind.Mutex owner) y d.1
get-keeps e (kind.Process v slot) r y d = same-keeps (kind.Process v slot) y d.1
get-keeps e (kind.Terminal terminal) r y d = same-keeps (kind.Terminal terminal) y d.1

-- a pipe that is kept as the tables say is the state's
pub counts : (s : Win32State) (section n : ℕ) (slots : List Place) (x : Kind)
    → IsKind slots s.processes section n x → (p : PipeState) → x ≡ kind.Pipe p → p ≡ pipe_state s n p.bytes
counts s section n slots x k p e =
    let facts = subst (IsKind slots s.processes section n) e k in counted-pipe s n p facts.0 facts.1
