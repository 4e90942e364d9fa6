-- The calls that change the object that a handle names: each is the step that it is to be, and the tables stay sound.
use Rattle.std.proofs.Common.{◌≡◌, ℕ, ◌≤◌, true, Some, subst, sym, arith}
use Rattle.std.specs.Option.{IsSomeAnd}
use Rattle.w32_base.specs.declared.call.Call.{Call}
use Rattle.w32_base.specs.declared.call.Call.TheVariants as call
use Rattle.w32_base.specs.declared.call.Reply.{Reply}
use Rattle.win32_spec.specs.State.{Win32State}
use Rattle.win32_spec.specs.Lookup.{process_of, is_live, object_number}
use Rattle.win32_spec.specs.Named.{named_by}
use Rattle.win32_spec.specs.WordCalls.{ExchangeStep, AddStep}
use Rattle.win32_spec.specs.ObjectCalls.{SetStep, ResetStep, ReleaseStep, PutStep, GetStep}
use Rattle.win32_spec.specs.Objects.{PipeState}
use Rattle.win32_spec.specs.Pipes.{pipe_state}
use Rattle.win32_spec.specs.WellFormed.{IsWellFormed}
use Rattle.win32_spec.specs.CallEffects.{exchange_effect, add_effect}
use Rattle.win32_spec.specs.ObjectEffects.{set_effect, reset_effect, release_effect, put_effect, get_effect}
use Rattle.win32_spec.specs.Effects.{CallEffect}
use Rattle.win32_spec.specs.KeepLaws.{wellformed-effect}
use Rattle.w32_handles.specs.Table.{object_at}
use Rattle.w32_machine.specs.Contract.{IsCaller}
use Rattle.w32_machine.specs.declared.caller.Caller.{Caller}
use Rattle.w32_kinds.specs.declared.kind.Kind.{Kind}
use Rattle.w32_machine.specs.declared.machine.Machine.TheInside.{Inside}
use Rattle.w32_kinds.specs.Kinds.{Exchanges, Increases, Sets, Resets, Releases, Puts, Gets}
use Rattle.w32_machine.specs.Running.{Running}
use Rattle.w32_machine.specs.View.{view_of}
use Rattle.w32_kinds.specs.declared.kind.Kind.TheVariants as kind
use Rattle.w32_machine.specs.Sound.{IsKind, IsSound}
use Rattle.w32_machine.proofs.PipeSteps.{end_named, put-step, get-step, put-keeps, get-keeps, counts}
use Rattle.w32_machine.proofs.Slots.{live, caller-at}
use Rattle.w32_machine.proofs.Changing.{number_is, object_is, kind_is, changed, after, unchanged, sound_after}
use Rattle.w32_machine.proofs.KindSteps.{exchange-step, add-step, set-step, reset-step, release-step, exchange-keeps}
use Rattle.w32_machine.proofs.KindSteps.{add-keeps, set-keeps, reset-keeps, release-keeps}

module _ (m : Inside) (sound : IsSound m) (now : Running) (shows : view_of m ≡ now) (by : Caller)
    (caller : IsCaller now.win32 by) where
  -- what a call leaves is well formed, by what it changes
  pub formed-effect : (t : ℕ) → t ≤ 2 → (c : Call) (new : Win32State)
      → CallEffect m.script now.win32 by.process t c new → IsWellFormed m.script new
  formed-effect t few c new effect =
      wellformed-effect m.script now.win32 by.process t c new
      (subst (λ (r : Running). IsWellFormed m.script r.win32) shows sound.state)
      (subst (λ (r : Running). is_live (process_of r.win32.processes by.process) ≡ true) shows
      (live m sound by.slot by.process (caller-at m sound now shows by.slot by.process caller.process))) few effect

  module _ (h o : ℕ) (named : Some o ≡ named_by now.win32 by.process h) (x : Kind)
      (was : IsSomeAnd (object_at m.objects o) (λ kept. kept.object ≡ x)) (y : Kind) (r : Reply) where
    abbrev new : Inside
    new = changed m sound now shows by caller h o named x was y

    its_counts : (p : PipeState) → x ≡ kind.Pipe p → p ≡ pipe_state now.win32 (object_number o) p.bytes
    its_counts =
        counts now.win32 m.section (object_number o) m.processes.slots x
        (subst (λ (r : Running). IsKind m.processes.slots r.win32.processes m.section (object_number o) x) shows
        (kind_is m sound now shows by caller h o named x was))

    pub exchange-done : (i old next : ℕ) → Exchanges i old next x r y
        → ExchangeStep now.win32 by.process h i old next r (view_of new).win32
    exchange-done i old next did =
        exchange-step now.win32 (view_of new).win32 by.process h (object_number o)
        (number_is m sound now shows by caller h o named) y r (after m sound now shows by caller h o named x was y)
        i old next x (object_is m sound now shows by caller h o named x was)
        (unchanged m sound now shows by caller h o named x was y) did

    pub exchange-sound : (i old next : ℕ) → Exchanges i old next x r y → IsSound new
    exchange-sound i old next did =
        sound_after m sound now shows by caller h o named x was y
        (formed-effect 0 (omega arith) (call.CompareExchange h i old next) (view_of new).win32
        (exchange_effect m.script now.win32 by.process 0 h i old next r (view_of new).win32
        (exchange-done i old next did)))
        (exchange-keeps i old next x r y did)

    pub add-done : (i more : ℕ) → Increases i more x r y
        → AddStep now.win32 by.process h i more r (view_of new).win32
    add-done i more did =
        add-step now.win32 (view_of new).win32 by.process h (object_number o)
        (number_is m sound now shows by caller h o named) y r (after m sound now shows by caller h o named x was y)
        i more x (object_is m sound now shows by caller h o named x was)
        (unchanged m sound now shows by caller h o named x was y) did

    pub add-sound : (i more : ℕ) → Increases i more x r y → IsSound new
    add-sound i more did =
        sound_after m sound now shows by caller h o named x was y
        (formed-effect 0 (omega arith) (call.FetchAdd h i more) (view_of new).win32
        (add_effect m.script now.win32 by.process 0 h i more r (view_of new).win32 (add-done i more did)))
        (add-keeps i more x r y did)

    pub set-done : Sets x r y → SetStep now.win32 by.process h r (view_of new).win32
    set-done did =
        set-step now.win32 (view_of new).win32 by.process h (object_number o)
        (number_is m sound now shows by caller h o named) y r (after m sound now shows by caller h o named x was y)
        x (object_is m sound now shows by caller h o named x was)
        (unchanged m sound now shows by caller h o named x was y) did

    pub set-sound : Sets x r y → IsSound new
    set-sound did =
        sound_after m sound now shows by caller h o named x was y
        (formed-effect 0 (omega arith) (call.Set h) (view_of new).win32
        (set_effect m.script now.win32 by.process 0 h r (view_of new).win32 (set-done did)))
        (set-keeps x r y did)

    pub reset-done : Resets x r y → ResetStep now.win32 by.process h r (view_of new).win32
    reset-done did =
        reset-step now.win32 (view_of new).win32 by.process h (object_number o)
        (number_is m sound now shows by caller h o named) y r (after m sound now shows by caller h o named x was y)
        x (object_is m sound now shows by caller h o named x was)
        (unchanged m sound now shows by caller h o named x was y) did

    pub reset-sound : Resets x r y → IsSound new
    reset-sound did =
        sound_after m sound now shows by caller h o named x was y
        (formed-effect 0 (omega arith) (call.Reset h) (view_of new).win32
        (reset_effect m.script now.win32 by.process 0 h r (view_of new).win32 (reset-done did)))
        (reset-keeps x r y did)

    pub release-done : Releases by.process by.thread x r y
        → ReleaseStep now.win32 by.process by.thread h r (view_of new).win32
    release-done did =
        release-step now.win32 (view_of new).win32 by.process h (object_number o)
        (number_is m sound now shows by caller h o named) y r (after m sound now shows by caller h o named x was y)
        by.thread x (object_is m sound now shows by caller h o named x was)
        (unchanged m sound now shows by caller h o named x was y) did

    pub release-sound : Releases by.process by.thread x r y → IsSound new
    release-sound did =
        sound_after m sound now shows by caller h o named x was y
        (formed-effect by.thread caller.thread (call.Release h) (view_of new).win32
        (release_effect m.script now.win32 by.process by.thread h r (view_of new).win32 (release-done did)))
        (release-keeps by.process by.thread x r y did)

    pub put-done : (b : ℕ) → Puts (end_named o) b x r y → PutStep now.win32 by.process h b r (view_of new).win32
    put-done b did =
        put-step now.win32 (view_of new).win32 by.process h o (object_number o) (sym named)
        (number_is m sound now shows by caller h o named) y r (after m sound now shows by caller h o named x was y)
        b x (object_is m sound now shows by caller h o named x was) its_counts
        (unchanged m sound now shows by caller h o named x was y) did

    pub put-sound : (b : ℕ) → Puts (end_named o) b x r y → IsSound new
    put-sound b did =
        sound_after m sound now shows by caller h o named x was y
        (formed-effect 0 (omega arith) (call.Put h b) (view_of new).win32
        (put_effect m.script now.win32 by.process 0 h b r (view_of new).win32 (put-done b did)))
        (put-keeps (end_named o) b x r y did)

    pub get-done : Gets (end_named o) x r y → GetStep now.win32 by.process h r (view_of new).win32
    get-done did =
        get-step now.win32 (view_of new).win32 by.process h o (object_number o) (sym named)
        (number_is m sound now shows by caller h o named) y r (after m sound now shows by caller h o named x was y)
        x (object_is m sound now shows by caller h o named x was) its_counts
        (unchanged m sound now shows by caller h o named x was y) did

    pub get-sound : Gets (end_named o) x r y → IsSound new
    get-sound did =
        sound_after m sound now shows by caller h o named x was y
        (formed-effect 0 (omega arith) (call.Get h) (view_of new).win32
        (get_effect m.script now.win32 by.process 0 h r (view_of new).win32 (get-done did)))
        (get-keeps (end_named o) x r y did)
