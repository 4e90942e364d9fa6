-- A key of the console that the terminal takes, and the bytes of a line that a read takes from it.
use Rattle.std.proofs.Common.{◌≡◌, ◌∙◌, ℕ, ◌≤◌, Bool, true, false, nat_le, List, [], ◌∷◌, length, Option}
use Rattle.std.proofs.Common.{Some, None, is_some, Result, Ok, Err, MatchOption, MatchBool, refl, sym, ap, subst, arith}
use Rattle.std.proofs.lemmas.Bool.Decides.{nat_tests}
use Rattle.std.specs.Option.{IsSomeAnd}
use Rattle.std.specs.VecDeque.{deque_capacity}
use Rattle.script_spec.specs.declared.script.Script.{Script}
use Rattle.tty_spec.specs.Terminal.{Terminal}
use Rattle.tty_spec.specs.Discipline.{Taken, after_key, after_take}
use Rattle.w32_base.specs.declared.call.Reply.{Reply}
use Rattle.w32_base.specs.declared.call.Reply.TheVariants as reply
use Rattle.w32_base.specs.declared.call.TtyOp.TheVariants as tty
use Rattle.w32_base.specs.declared.own.Own.{Own}
use Rattle.win32_spec.specs.State.{Win32State}
use Rattle.win32_spec.specs.Named.{named_by, object_by, terminal_named, Gives}
use Rattle.win32_spec.specs.Regions.{is_inside}
use Rattle.win32_spec.specs.TerminalCalls.{with_terminal, signal_number, is_buffer, is_background, KeyStep, TtyStep}
use Rattle.win32_spec.specs.WellFormed.{IsWellFormed}
use Rattle.w32_handles.specs.Table.{HeldObject, object_at}
use Rattle.w32_machine.specs.Contract.{IsCaller, key_lines}
use Rattle.w32_machine.specs.declared.caller.Caller.{Caller}
use Rattle.w32_kinds.specs.declared.kind.Kind.{Kind}
use Rattle.w32_machine.specs.declared.machine.Machine.TheInside.{Inside}
use Rattle.w32_machine.specs.Running.{Running}
use Rattle.w32_kinds.specs.Terminals.{terminal_of, OfTerminal, Becomes, Presses, TakesLine, LineStep}
use Rattle.w32_kinds.specs.Shown.{shown}
use Rattle.w32_machine.specs.View.{view_of}
use Rattle.w32_machine.specs.Sound.{IsSound}
use Rattle.w32_machine.proofs.Changing.{object_is, changed, unchanged}
use Rattle.w32_machine.proofs.TerminalSteps.{named-terminal, becomes, terminal-sound, same-sound}

-- the bytes of a line
module _ (m : Inside) (sound : IsSound m) (now : Running) (shows : view_of m ≡ now) (by : Caller)
    (caller : IsCaller now.win32 by) (h o : ℕ) (named : Some o ≡ named_by now.win32 by.process h) (x : Kind)
    (was : IsSomeAnd (object_at m.objects o) (λ kept. kept.object ≡ x)) (y : Kind) (group count : ℕ)
    (found : Result (List ℕ) Reply) (did : TakesLine group count x found y) where
  abbrev new : Inside
  new = changed m sound now shows by caller h o named x was y

  -- what is known of a line by the terminal that it is taken from
  abbrev Taking : Option Terminal → Type 0
  Taking k = MatchOption k ((found ≡ Err reply.BadHandle) × (y ≡ x)) (λ t.
      MatchBool (is_background t group) ((found ≡ Err reply.Background) × (y ≡ x))
      (MatchOption (after_take t count) ((found ≡ Err reply.NoLine) × (y ≡ x)) (λ taken.
      (found ≡ Ok taken.bytes) × (terminal_of y ≡ Some taken.terminal))))

  pub line-sound : IsSound new
  line-sound = by_terminal (terminal_of x) refl did
    where
      by_line : (t : Terminal) → terminal_of x ≡ Some t → (k : Option Taken)
          → MatchOption k ((found ≡ Err reply.NoLine) × (y ≡ x)) (λ taken.
          (found ≡ Ok taken.bytes) × (terminal_of y ≡ Some taken.terminal)) → IsSound new
      by_line t e None d = same-sound m sound now shows by caller h o named x was y d.1
      by_line t e (Some taken) d = terminal-sound m sound now shows by caller h o named x was y t taken.terminal e d.1

      by_test : (t : Terminal) → terminal_of x ≡ Some t → (b : Bool)
          → MatchBool b ((found ≡ Err reply.Background) × (y ≡ x))
          (MatchOption (after_take t count) ((found ≡ Err reply.NoLine) × (y ≡ x)) (λ taken.
          (found ≡ Ok taken.bytes) × (terminal_of y ≡ Some taken.terminal))) → IsSound new
      by_test t e true d = same-sound m sound now shows by caller h o named x was y d.1
      by_test t e false d = by_line t e (after_take t count) d

      by_terminal : (k : Option Terminal) → terminal_of x ≡ k → Taking k → IsSound new
      by_terminal None e d = same-sound m sound now shows by caller h o named x was y d.1
      by_terminal (Some t) e d = by_test t e (is_background t group) d

  abbrev Steps : Option Terminal → Type 0
  Steps k = MatchOption k ((found ≡ Err reply.BadHandle) × ((view_of new).win32 ≡ now.win32)) (λ t.
      MatchBool (is_background t group) ((found ≡ Err reply.Background) × ((view_of new).win32 ≡ now.win32))
      (MatchOption (after_take t count) ((found ≡ Err reply.NoLine) × ((view_of new).win32 ≡ now.win32)) (λ taken.
      (found ≡ Ok taken.bytes) × ((view_of new).win32 ≡ with_terminal now.win32 by.process h taken.terminal))))

  pub line-step : LineStep now.win32 by.process h group count found (view_of new).win32
  line-step =
      subst (λ k. Steps (terminal_named k)) (sym (object_is m sound now shows by caller h o named x was))
      (subst Steps (sym (named-terminal x)) (by_terminal (terminal_of x) did))
    where
      same : y ≡ x → (view_of new).win32 ≡ now.win32
      same = unchanged m sound now shows by caller h o named x was y

      by_line : (k : Option Taken)
          → MatchOption k ((found ≡ Err reply.NoLine) × (y ≡ x)) (λ taken.
          (found ≡ Ok taken.bytes) × (terminal_of y ≡ Some taken.terminal))
          → MatchOption k ((found ≡ Err reply.NoLine) × ((view_of new).win32 ≡ now.win32)) (λ taken.
          (found ≡ Ok taken.bytes) × ((view_of new).win32 ≡ with_terminal now.win32 by.process h taken.terminal))
      by_line None d = (d.0, same d.1)
      by_line (Some taken) d = (d.0, becomes m sound now shows by caller h o named x was y taken.terminal d.1)

      by_test : (t : Terminal) (b : Bool)
          → MatchBool b ((found ≡ Err reply.Background) × (y ≡ x))
          (MatchOption (after_take t count) ((found ≡ Err reply.NoLine) × (y ≡ x)) (λ taken.
          (found ≡ Ok taken.bytes) × (terminal_of y ≡ Some taken.terminal)))
          → MatchBool b ((found ≡ Err reply.Background) × ((view_of new).win32 ≡ now.win32))
          (MatchOption (after_take t count) ((found ≡ Err reply.NoLine) × ((view_of new).win32 ≡ now.win32)) (λ taken.
          (found ≡ Ok taken.bytes) × ((view_of new).win32 ≡ with_terminal now.win32 by.process h taken.terminal)))
      by_test t true d = (d.0, same d.1)
      by_test t false d = by_line (after_take t count) d

      by_terminal : (k : Option Terminal) → Taking k → Steps k
      by_terminal None d = (d.0, same d.1)
      by_terminal (Some t) d = by_test t (is_background t group) d

-- a range of the heap that may be moved
pub buffer-is : (own caller : Own) (place count size : ℕ) (r : Bool) → own ≡ caller → size ≡ length own.heap
    → r ≡ is_inside size place count → count ≤ 64 → r ≡ is_buffer caller place count
buffer-is own caller place count size r e n inside few =
    let small : nat_le count 64 ≡ true = grind (arith, nat_tests, few) in
    rw small (inside ∙ ap (λ i. is_inside i place count) (n ∙ ap (λ (x : Own). length x.heap) e))

-- the keys don't matter to what is well formed
formed-keys : (script : Script) (s : Win32State) (keys : List ℕ) → IsWellFormed script s
    → IsWellFormed script (record s { keys = keys })
formed-keys script s keys h = record {
  formed = record {
    next = h.formed.next;
    processes = h.formed.processes;
    objects = h.formed.objects;
    process = h.formed.process;
    one_a_slot = h.formed.one_a_slot;
    object = h.formed.object;
    only = h.formed.only;
  };
  object_held = h.object_held;
  process_held = h.process_held;
}

-- the machine m' has other keys than m
module _ (m m' : Inside) (sound : IsSound m) (same : m' ≡ record m { keys = m'.keys })
    (room : deque_capacity m'.keys ≡ deque_capacity m.keys) where
  pub keys-sound : IsSound m'
  keys-sound =
      subst IsSound (sym same)
      (record {
        state = formed-keys m.script (view_of m).win32 m'.keys.items sound.state;
        table = sound.table;
        slots = sound.slots;
        posted = sound.posted;
        placed = sound.placed;
        held = sound.held;
        room = sound.room;
        keys = subst (λ n. key_lines m.script.directives ≤ n) (sym room) sound.keys;
      })

  pub keys-show : (now : Running) → view_of m ≡ now
      → view_of m' ≡ record now { win32 = record now.win32 { keys = m'.keys.items } }
  keys-show now shows =
      ap view_of same
      ∙ ap (λ (r : Running). record r { win32 = record r.win32 { keys = m'.keys.items } }) shows

-- the keys are those that were there
pub keys-back : (m : Inside) (now : Running) → view_of m ≡ now → (keys : List ℕ) → m.keys.items ≡ keys
    → record (view_of m).win32 { keys = keys } ≡ now.win32
keys-back m now shows keys e =
    ap (λ (ks : List ℕ). record (view_of m).win32 { keys = ks }) (sym e) ∙ ap (λ (r : Running). r.win32) shows

-- an object that is no terminal, and one that is
pub no-terminal : (s new : Win32State) (w h : ℕ) (x : Kind) (Q : Terminal → Type 0) → object_by s w h ≡ Some (shown x)
    → is_some (terminal_of x) ≡ false → new ≡ s
    → MatchOption (terminal_named (object_by s w h)) (Gives reply.BadHandle s reply.BadHandle new) Q
no-terminal s new w h x Q is none same =
    subst (λ o. MatchOption (terminal_named o) (Gives reply.BadHandle s reply.BadHandle new) Q) (sym is)
    (subst (λ o. MatchOption o (Gives reply.BadHandle s reply.BadHandle new) Q) (sym (named-terminal x))
    (by_terminal (terminal_of x) none))
  where
    by_terminal : (o : Option Terminal) → is_some o ≡ false
        → MatchOption o (Gives reply.BadHandle s reply.BadHandle new) Q
    by_terminal None e = (refl, same)
    by_terminal (Some t) e = absurd (cc)

pub the-terminal : (x : Kind) → is_some (terminal_of x) ≡ true → (t : Terminal) × (terminal_of x ≡ Some t)
the-terminal x some = by_terminal (terminal_of x) refl some
  where
    by_terminal : (o : Option Terminal) → terminal_of x ≡ o → is_some o ≡ true
        → (t : Terminal) × (terminal_of x ≡ Some t)
    by_terminal (Some t) e f = (t, e)
    by_terminal None e f = absurd (cc)

on-terminal : (s new : Win32State) (w h : ℕ) (x : Kind) (r : Reply) (Q : Terminal → Type 0) (t : Terminal)
    → object_by s w h ≡ Some (shown x) → terminal_of x ≡ Some t → Q t
    → MatchOption (terminal_named (object_by s w h)) (Gives reply.BadHandle s r new) Q
on-terminal s new w h x r Q t is there q =
    subst (λ o. MatchOption (terminal_named o) (Gives reply.BadHandle s r new) Q) (sym is)
    (subst (λ o. MatchOption o (Gives reply.BadHandle s r new) Q) (sym (named-terminal x ∙ there)) q)

-- what is lent twice is the same
pub same-lent : (o : Option (HeldObject Kind)) (x y : Kind) → IsSomeAnd o (λ kept. kept.object ≡ x)
    → IsSomeAnd o (λ kept. kept.object ≡ y) → x ≡ y
same-lent (Some kept) x y e f = sym e ∙ f
same-lent None x y e f = absurd e

-- a list without a first key
pub no-first : (keys : List ℕ) → length keys ≡ 0 → keys ≡ []
no-first [] e = refl
no-first (b ∷ keys) e = absurd (omega arith)

-- no key waits
pub no-key : (s new : Win32State) (w h : ℕ) (x : Kind) → object_by s w h ≡ Some (shown x)
    → is_some (terminal_of x) ≡ true → s.keys ≡ [] → new ≡ s → TtyStep s w h tty.Key reply.NoKey new
no-key s new w h x is some none same =
    let it = the-terminal x some in
    on-terminal s new w h x reply.NoKey (λ t. KeyStep s w h t s.keys reply.NoKey new) it.0 is it.1
    (subst (λ ks. KeyStep s w h it.0 ks reply.NoKey new) (sym none) (refl, same))

-- a key that waits
module _ (m m' : Inside) (sound : IsSound m) (same : m' ≡ record m { keys = m'.keys })
    (room : deque_capacity m'.keys ≡ deque_capacity m.keys) (now : Running) (shows : view_of m ≡ now) (by : Caller)
    (caller : IsCaller now.win32 by) (h o : ℕ) (named : Some o ≡ named_by now.win32 by.process h) (x : Kind)
    (was : IsSomeAnd (object_at m.objects o) (λ kept. kept.object ≡ x))
    (was' : IsSomeAnd (object_at m'.objects o) (λ kept. kept.object ≡ x)) (y : Kind) (b : ℕ) (r : Reply)
    (some : is_some (terminal_of x) ≡ true) (keys : m.keys.items ≡ b ∷ m'.keys.items) (did : Presses b x r y) where
  abbrev pub now' : Running
  now' = record now { win32 = record now.win32 { keys = m'.keys.items } }

  pub caller' : IsCaller now'.win32 by
  caller' = record { process = caller.process; thread = caller.thread }

  pub it : (t : Terminal) × (terminal_of x ≡ Some t)
  it = the-terminal x some

  done : Becomes (reply.Key b (signal_number (after_key it.0 b).signal) it.0.foreground) (after_key it.0 b).terminal r y
  done =
      subst (λ k. OfTerminal k (λ t. Becomes (reply.Key b (signal_number (after_key t b).signal) t.foreground)
      (after_key t b).terminal r y) x r y) it.1 did

  abbrev pub pressed : Inside
  pressed = changed m' (keys-sound m m' sound same room) now' (keys-show m m' sound same room now shows) by caller' h o
      named x was' y

  pub press-sound : IsSound pressed
  press-sound =
      terminal-sound m' (keys-sound m m' sound same room) now' (keys-show m m' sound same room now shows) by caller' h o
      named x was' y it.0 (after_key it.0 b).terminal it.1 done.1

  pub press-step : TtyStep now.win32 by.process h tty.Key r (view_of pressed).win32
  press-step =
      on-terminal now.win32 (view_of pressed).win32 by.process h x r
      (λ t. KeyStep now.win32 by.process h t now.win32.keys r (view_of pressed).win32) it.0
      (object_is m sound now shows by caller h o named x was) it.1
      (subst (λ ks. KeyStep now.win32 by.process h it.0 ks r (view_of pressed).win32)
      (sym (ap (λ (q : Running). q.win32.keys) (sym shows) ∙ keys)) (
        done.0,
        becomes m' (keys-sound m m' sound same room) now' (keys-show m m' sound same room now shows) by caller' h o
            named x was' y (after_key it.0 b).terminal done.1,
      ))
