-- What a call does to the terminal that a handle names is what it does to the state.
use Rattle.std.proofs.Common.{◌≡◌, ◌∙◌, ℕ, Bool, true, false, ◌&&◌, not, Option, Some, None}
use Rattle.std.proofs.Common.{MatchOption, MatchBool, refl, sym, ap, subst}
use Rattle.std.specs.Option.{IsSomeAnd}
use Rattle.tty_spec.specs.Terminal.{Terminal, terminal_session}
use Rattle.w32_base.specs.declared.call.Call.TheVariants as call
use Rattle.w32_base.specs.declared.call.Reply.{Reply}
use Rattle.w32_base.specs.declared.call.Reply.TheVariants as reply
use Rattle.w32_base.specs.declared.call.TtyOp.TheVariants as tty
use Rattle.win32_spec.specs.State.{TerminalObject, Win32State}
use Rattle.win32_spec.specs.Lookup.{object_number, with_object}
use Rattle.win32_spec.specs.Named.{named_by, object_by, terminal_named, Gives}
use Rattle.win32_spec.specs.CallEffects.{object_changes}
use Rattle.win32_spec.specs.Tame.{ObjectBecomes}
use Rattle.win32_spec.specs.Effects.{MayExchange}
use Rattle.win32_spec.specs.TerminalCalls.{with_terminal, is_background, ChangeStep, TtyStep}
use Rattle.win32_spec.specs.WellFormed.{IsWellFormed}
use Rattle.w32_handles.specs.Table.{object_at}
use Rattle.w32_machine.specs.Contract.{IsCaller}
use Rattle.w32_machine.specs.declared.caller.Caller.{Caller}
use Rattle.w32_kinds.specs.declared.kind.Kind.{Kind}
use Rattle.w32_kinds.specs.declared.kind.Kind.TheVariants as kind
use Rattle.w32_machine.specs.declared.machine.Machine.TheInside.{Inside}
use Rattle.w32_machine.specs.Running.{Running}
use Rattle.w32_kinds.specs.Terminals.{terminal_of, OfTerminal, AtTerminal, Becomes, Stays, ChangesBy, Tells}
use Rattle.w32_kinds.specs.Shown.{shown}
use Rattle.w32_machine.specs.View.{view_of}
use Rattle.w32_machine.specs.Sound.{IsSound}
use Rattle.w32_machine.proofs.Called.{formed-effect}
use Rattle.w32_machine.proofs.Changing.{KeepsKind, number_is, object_is, changed, after, unchanged, sound_after}
use Rattle.w32_machine.proofs.KindSteps.{same-keeps}

-- the terminal that is shown
pub named-terminal : (x : Kind) → terminal_named (Some (shown x)) ≡ terminal_of x
named-terminal (kind.Terminal terminal) = refl
named-terminal (kind.Section words) = refl
named-terminal (kind.Event e) = refl
named-terminal (kind.Mutex owner) = refl
named-terminal (kind.Pipe p) = refl
named-terminal (kind.Process w slot) = refl

pub shown-terminal : (x : Kind) (z : Terminal) → terminal_of x ≡ Some z → shown x ≡ TerminalObject z
shown-terminal (kind.Terminal terminal) z e = ap (λ k. TerminalObject k) (let f : terminal.value ≡ z = cc in f)
shown-terminal (kind.Section words) z e = absurd (cc)
shown-terminal (kind.Event v) z e = absurd (cc)
shown-terminal (kind.Mutex owner) z e = absurd (cc)
shown-terminal (kind.Pipe p) z e = absurd (cc)
shown-terminal (kind.Process w slot) z e = absurd (cc)

terminal-keeps : (x y : Kind) (z : Terminal) → terminal_of y ≡ Some z → KeepsKind x y
terminal-keeps x (kind.Terminal terminal) z e = λ slots ps section o k. tt
terminal-keeps x (kind.Section words) z e = absurd (cc)
terminal-keeps x (kind.Event v) z e = absurd (cc)
terminal-keeps x (kind.Mutex owner) z e = absurd (cc)
terminal-keeps x (kind.Pipe p) z e = absurd (cc)
terminal-keeps x (kind.Process w slot) z e = absurd (cc)

-- a call on the terminal, from what it does to the object
pub at-step : (s new : Win32State) (w h : ℕ) (x y : Kind) (r : Reply) (P Q : Terminal → Type 0)
    → object_by s w h ≡ Some (shown x) → (y ≡ x → new ≡ s) → AtTerminal P x r y
    → ((t : Terminal) → terminal_of x ≡ Some t → P t → Q t)
    → MatchOption (terminal_named (object_by s w h)) (Gives reply.BadHandle s r new) Q
at-step s new w h x y r P Q is same did goes =
    subst (λ o. MatchOption (terminal_named o) (Gives reply.BadHandle s r new) Q) (sym is)
    (subst (λ o. MatchOption o (Gives reply.BadHandle s r new) Q) (sym (named-terminal x))
    (by_terminal (terminal_of x) did goes))
  where
    by_terminal : (o : Option Terminal) → OfTerminal o P x r y
        → ((t : Terminal) → o ≡ Some t → P t → Q t)
        → MatchOption o (Gives reply.BadHandle s r new) Q
    by_terminal None d g = (d.0, same d.1)
    by_terminal (Some t) d g = g t refl d

pub tells-step : (s : Win32State) (w h : ℕ) (x : Kind) (r : Reply) → object_by s w h ≡ Some (shown x) → Tells x r
    → TtyStep s w h tty.State r s
tells-step s w h x r is did =
    at-step s s w h x x r (λ t. r ≡ reply.State t.foreground terminal_session t.flags)
    (λ t. Gives (reply.State t.foreground terminal_session t.flags) s r s) is (λ e. refl) did (λ t e d. (d, refl))

-- another terminal in the place of one
module _ (m : Inside) (sound : IsSound m) (now : Running) (shows : view_of m ≡ now) (by : Caller)
    (caller : IsCaller now.win32 by) (h o : ℕ) (named : Some o ≡ named_by now.win32 by.process h) (x : Kind)
    (was : IsSomeAnd (object_at m.objects o) (λ kept. kept.object ≡ x)) (y : Kind) where
  abbrev pub new : Inside
  new = changed m sound now shows by caller h o named x was y

  pub becomes : (z : Terminal) → terminal_of y ≡ Some z → (view_of new).win32 ≡ with_terminal now.win32 by.process h z
  becomes z e =
      after m sound now shows by caller h o named x was y
      ∙ ap (with_object now.win32 (object_number o)) (shown-terminal y z e)
      ∙ ap (λ i. with_object now.win32 i (TerminalObject z)) (sym (number_is m sound now shows by caller h o named))

  pub terminal-formed : (a z : Terminal) → terminal_of x ≡ Some a → terminal_of y ≡ Some z
      → IsWellFormed m.script (view_of new).win32
  terminal-formed a z e f =
      formed-effect m sound now shows by caller by.thread caller.thread (call.Tty h tty.State) (view_of new).win32
      (object_changes m.script now.win32 by.process by.thread (call.Tty h tty.State) h (TerminalObject a)
      (TerminalObject z) (view_of new).win32
      (object_is m sound now shows by caller h o named x was ∙ ap (λ k. Some k) (shown-terminal x a e))
      its_change (becomes z f))
    where
      its_change : ObjectBecomes (MayExchange (call.Tty h tty.State)) by.process by.thread (TerminalObject a)
          (TerminalObject z)
      its_change = record { only = refl; ends = refl; holds = tt }

  pub terminal-sound : (a z : Terminal) → terminal_of x ≡ Some a → terminal_of y ≡ Some z → IsSound new
  terminal-sound a z e f =
      sound_after m sound now shows by caller h o named x was y (terminal-formed a z e f) (terminal-keeps x y z f)

  pub same-sound : y ≡ x → IsSound new
  same-sound e =
      sound_after m sound now shows by caller h o named x was y
      (subst (IsWellFormed m.script) (sym (unchanged m sound now shows by caller h o named x was y e))
      (subst (λ (r : Running). IsWellFormed m.script r.win32) shows sound.state)) (same-keeps x y e)

  -- a change that a background group may make by force alone
  pub change-step : (group : ℕ) (force : Bool) (change : Terminal → Terminal) (r : Reply)
      → ChangesBy group force change x r y
      → MatchOption (terminal_named (object_by now.win32 by.process h))
      (Gives reply.BadHandle now.win32 r (view_of new).win32)
      (λ t. ChangeStep now.win32 by.process h t group force (change t) r (view_of new).win32)
  change-step group force change r did =
      at-step now.win32 (view_of new).win32 by.process h x y r
      (λ t. MatchBool (is_background t group && not force) (Stays reply.Background x r y)
      (Becomes reply.Done (change t) r y))
      (λ t. ChangeStep now.win32 by.process h t group force (change t) r (view_of new).win32)
      (object_is m sound now shows by caller h o named x was)
      (unchanged m sound now shows by caller h o named x was y) did
      (λ t e d. by_test t (is_background t group && not force) d)
    where
      by_test : (t : Terminal) (b : Bool)
          → MatchBool b (Stays reply.Background x r y) (Becomes reply.Done (change t) r y)
          → MatchBool b (Gives reply.Background now.win32 r (view_of new).win32)
          (Gives reply.Done (with_terminal now.win32 by.process h (change t)) r (view_of new).win32)
      by_test t true d = (d.0, unchanged m sound now shows by caller h o named x was y d.1)
      by_test t false d = (d.0, becomes (change t) d.1)

  pub change-sound : (group : ℕ) (force : Bool) (change : Terminal → Terminal) (r : Reply)
      → ChangesBy group force change x r y → IsSound new
  change-sound group force change r did = by_terminal (terminal_of x) refl did
    where
      by_test : (t : Terminal) → terminal_of x ≡ Some t → (b : Bool)
          → MatchBool b (Stays reply.Background x r y) (Becomes reply.Done (change t) r y) → IsSound new
      by_test t e true d = same-sound d.1
      by_test t e false d = terminal-sound t (change t) e d.1

      by_terminal : (k : Option Terminal) → terminal_of x ≡ k → OfTerminal k (λ t.
          MatchBool (is_background t group && not force) (Stays reply.Background x r y)
          (Becomes reply.Done (change t) r y)) x r y → IsSound new
      by_terminal None e d = same-sound d.1
      by_terminal (Some t) e d = by_test t e (is_background t group && not force) d
