-- The closing of an own handle above 8, in a turn of the thread to which it was answered: the change is steady. What
-- nobody names any more goes with the handle, but the host holds the section and the terminal.
use Rattle.std.proofs.Common.{◌≡◌, ◌≢◌, inl, inr, ℕ, ◌≤◌, ◌<◌, true, List, Some, refl, sym, ap, ◌∙◌, subst, arith}
use Rattle.std.proofs.lemmas.Bool.{cases_eq}
use Rattle.w32_base.specs.declared.call.Reply.{Reply}
use Rattle.w32_base.specs.declared.entry.Directive.TheVariants as directive
use Rattle.script_spec.specs.declared.script.Script.{Script}
use Rattle.win32_spec.specs.CallEffects.{by_option}
use Rattle.win32_spec.specs.Ends.{is_object_held, held_objects, is_process_held, swept}
use Rattle.win32_spec.specs.FormedLaws.{live_found, found_live}
use Rattle.win32_spec.specs.HandleCalls.{CloseStep}
use Rattle.win32_spec.specs.HandleLaws.{handle_of-without_other}
use Rattle.win32_spec.specs.Handles.{Handle, handle_of, without_handle}
use Rattle.win32_spec.specs.HeldLaws.{is-held, kept_process, kept_process-stays}
use Rattle.win32_spec.specs.Lookup.{is_alive, is_live, process_of, number_in, change_process, with_handles}
use Rattle.win32_spec.specs.Lookup.{object_number, object_of, word_in}
use Rattle.win32_spec.specs.LookupLaws.{or_left, changed_process, process_of-change_same, process_of-change_other}
use Rattle.win32_spec.specs.LookupLaws.{rising-change_process}
use Rattle.win32_spec.specs.Named.{handles_of, handles_by, named_by, object_by}
use Rattle.win32_spec.specs.State.{Object, Section, TerminalObject, NumberedObject, Process, Win32State}
use Rattle.win32_spec.specs.WellFormed.{IsWellFormed, only_number}
use Rattle.layer_spec.specs.Moment.{Seen}
use Rattle.roster.specs.Turns.{roster_handle}
use Rattle.world_spec.specs.CalmSteps.{calm_process}
use Rattle.world_spec.specs.EndLaws.{named_found}
use Rattle.world_spec.specs.Made.{opener_of}
use Rattle.world_spec.specs.OpenLaws.{live-changed}
use Rattle.world_spec.specs.OpenLawsObjects.{section_words-held, terminal_in-held}
use Rattle.world_spec.specs.ResumeLaws.{steady_same}
use Rattle.world_spec.specs.Sound.{IsHosted}
use Rattle.world_spec.specs.Steady.{SteadyProcess, MakesSteady, steady_process}

module _ {A : Type 0} (script : Script) (past : List (Seen A)) (s : Win32State) (formed : IsWellFormed script s)
    (hosted : IsHosted s) (slot t w h : ℕ) (acts : number_in s slot ≡ Some w) (high : 8 < h)
    (opener : opener_of past w h ≡ t) where
  abbrev left : List Handle
  left = without_handle (handles_by s w) h

  abbrev closed : List Process
  closed = change_process w (λ p. record p { handles = left }) s.processes

  abbrev held : List NumberedObject
  held = held_objects closed s.objects

  -- another handle of a process names what it named
  still_names : (v k names : ℕ) (p : Process) → process_of s.processes v ≡ Some p → handle_of p.handles k ≡ Some names
      → k ≢ h
      → (q : Process) × (process_of closed v ≡ Some q) × (q.life ≡ p.life) × (handle_of q.handles k ≡ Some names)
  still_names v k names p found named other = elim (cases_eq v w) [
    | inl same ↦ (
      record p { handles = left },
      ap (process_of closed) same
          ∙ process_of-change_same w (λ x. record x { handles = left }) (λ x. refl) s.processes p
          (ap (process_of s.processes) (sym same) ∙ found),
      refl,
      handle_of-without_other (handles_by s w) h k other
          ∙ (ap (λ o. handle_of (handles_of o) k) (ap (process_of s.processes) (sym same) ∙ found) ∙ named),
    )
    | inr apart ↦ (
      p,
      process_of-change_other w (λ x. record x { handles = left }) (λ x. refl) s.processes v apart ∙ found,
      refl,
      named,
    )
  ]

  -- what a low handle of the host names is held
  host_holds : (k names : ℕ) → k ≤ 8 → named_by s 1 k ≡ Some names → is_object_held closed (object_number names) ≡ true
  host_holds k names few named =
      let host = live_found (process_of s.processes 1) hosted.lives in
      let at = still_names 1 k names host.0 host.1 (ap (λ o. handle_of (handles_of o) k) (sym host.1) ∙ named)
      (λ e. omega (arith, few, high, e)) in
      is-held closed (object_number names) (record {
        number = 1;
        process = at.0;
        found = at.1;
        alive = ap is_alive at.2 ∙ host.2;
        handle = k;
        names = names;
        named = at.3;
        object = refl;
      })

  -- so is each object that is the only one of its kind, where the host names one of the kind
  only_held : (k : ℕ) (x : Object) (number : ℕ) → k ≤ 8 → object_by s 1 k ≡ Some x → only_number x ≡ Some number
      → (o : ℕ) (y : Object) → object_of s.objects o ≡ Some y → only_number y ≡ Some number
      → is_object_held closed o ≡ true
  only_held k x number few e one o y f other =
      let at = named_found s 1 k x e in
      let n : object_number at.0 ≡ o = formed.formed.only (object_number at.0) o x y number at.2 f one other in
      subst (λ m. is_object_held closed m ≡ true) n (host_holds k at.0 few at.1)

  -- a process that is alive after it
  closed_process : (v : ℕ) (q : Process) → process_of (swept (with_handles s w left)).processes v ≡ Some q
      → is_alive q.life ≡ true
      → (p : Process) × (process_of s.processes v ≡ Some p) × (is_alive p.life ≡ true)
      × SteadyProcess past s (directive.Turn slot t) v p q
  closed_process v q f alive =
      let rising = rising-change_process w (λ x. record x { handles = left }) (λ x. refl) 1 s.next s.processes
      formed.formed.processes in
      elim (changed_process w (λ x. record x { handles = left }) (λ x. refl) s.processes v q
      (kept_process held 1 s.next closed v q rising f).0) [
        | inl other ↦ (q, other.1, alive, steady_process past s (directive.Turn slot t) v q q (calm_process q))
        | inr this ↦ (
          this.1,
          ap (process_of s.processes) this.0 ∙ this.2,
          ap (λ (p : Process). is_alive p.life) (sym this.3) ∙ alive,
          subst (λ p. SteadyProcess past s (directive.Turn slot t) v this.1 p) (sym this.3) (record {
            image = record { dat = refl; heap = refl; stack = refl };
            cyg = refl;
            placed = refl;
            suspended = λ u. inl refl;
            roster = handle_of-without_other (handles_by s w) h roster_handle (λ e. omega (arith, high, e))
                ∙ ap (λ o. handle_of (handles_of o) roster_handle) this.2;
            handles = λ k names named. elim (cases_eq k h) [
              | inl same ↦ inr (
                omega (arith, high, same),
                (
                  acts ∙ ap (λ k. Some k) (sym this.0),
                  sym opener ∙ (ap (λ k. opener_of past k h) (sym this.0) ∙ ap (opener_of past v) (sym same)),
                ),
              )
              | inr other ↦ inl (handle_of-without_other (handles_by s w) h k other
                  ∙ (ap (λ o. handle_of (handles_of o) k) this.2 ∙ named))
            ];
          }),
        )
      ]

  lives_on : (v : ℕ) → is_live (process_of s.processes v) ≡ true
      → is_live (process_of (swept (with_handles s w left)).processes v) ≡ true
  lives_on v live =
      let p = live_found (process_of closed v)
      (live-changed w (λ x. record x { handles = left }) (λ x. refl) (λ x. refl) s.processes v live) in
      found_live (process_of (swept (with_handles s w left)).processes v) p.0
      (kept_process-stays held closed v p.0 p.1 (or_left (is_alive p.0.life) (is_process_held held v) p.2)) p.2

  pub close-steady : (r : Reply) (new : Win32State) → CloseStep s w h r new → MakesSteady past s slot t new
  close-steady r new step =
      by_option (named_by s w h) (λ e g. steady_same past s slot t new g.1) (λ names e g.
      subst (MakesSteady past s slot t) (sym g.1) (record {
        steady = record {
          words = λ i. ap (λ o. word_in o i) (section_words-held closed 0 s.objects formed.formed.objects
              (λ o words f. only_held 1 (Section hosted.section.0) 0 (omega arith) hosted.section.1 refl o
              (Section words) f refl));
          terminal = terminal_in-held closed 0 s.objects formed.formed.objects
              (λ o x f. only_held 3 (TerminalObject hosted.terminal.0) 1 (omega arith) hosted.terminal.1 refl o
              (TerminalObject x) f refl);
          processes = closed_process;
        };
        lives = lives_on;
      })) step
