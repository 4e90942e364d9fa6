-- A call that gives the caller a handle or two: an event, a mutex, a pipe, and a handle on a process. It is calm where
-- the caller has a handle 2, since the lowest free number isn't 2 then, and the handles that come are the lowest free
-- ones.
use Rattle.std.proofs.Common.{◌≡◌, ◌≢◌, inl, inr, ℕ, ◌+◌, ◌≤◌, Bool, true, false, if◌then◌else◌, List, []}
use Rattle.std.proofs.Common.{◌∷◌, Option, Some, None, IsSome}
use Rattle.std.proofs.Common.{refl, sym, ap, ◌∙◌, subst, arith}
use Rattle.std.proofs.lemmas.Bool.{cases_eq, cases_lt}
use Rattle.w32_base.specs.declared.call.Reply.{Reply}
use Rattle.w32_base.specs.declared.call.Reply.TheVariants as reply
use Rattle.script_spec.specs.declared.script.Script.{Script}
use Rattle.win32_spec.specs.CallEffects.{by_bool, by_option}
use Rattle.win32_spec.specs.FormedLaws.{live_found, found_live}
use Rattle.win32_spec.specs.HandleEffects.{is_its_object}
use Rattle.win32_spec.specs.Ends.{is_object_of}
use Rattle.win32_spec.specs.HandleLaws.{handle_of-with_same, handle_of-with_other}
use Rattle.win32_spec.specs.Handles.{Handle, handle_of, with_handle, IsLowestFree}
use Rattle.win32_spec.specs.Lookup.{process_of, change_process, object_number, object_of, with_new_object, is_live}
use Rattle.win32_spec.specs.Lookup.{is_alive, section_words, terminal_in}
use Rattle.win32_spec.specs.Lookup.{word_in as section_word_in}
use Rattle.win32_spec.specs.LookupLaws.{changed_process, process_of-change_same, process_of-change_other}
use Rattle.win32_spec.specs.LookupLaws.{not_none}
use Rattle.win32_spec.specs.Named.{handles_of, handles_by, named_by, is_full, IsHandled}
use Rattle.win32_spec.specs.Named.{GetsHandle, MakesObject}
use Rattle.win32_spec.specs.ObjectCalls.{EventStep, MutexStep, IsNewPipe, PipeStep}
use Rattle.win32_spec.specs.ObjectLaws.{object_of-add_new, rising_objects-bound}
use Rattle.win32_spec.specs.ProcessCalls.{process_object, OpenStep}
use Rattle.win32_spec.specs.State.{Object, Event, Pipe, ProcessObject, NumberedObject, Process, Win32State}
use Rattle.win32_spec.specs.WellFormed.{AreRisingObjects, IsWellFormed}
use Rattle.layer_spec.specs.Turns.{is_live_process}
use Rattle.layer_spec.specs.Words.{word_in}
use Rattle.roster.specs.Turns.{roster_handle}
use Rattle.world_spec.specs.Calm.{CalmProcess, IsCalm}
use Rattle.world_spec.specs.CalmSteps.{calm-same, calm_process}
use Rattle.world_spec.specs.EndLaws.{found-later, found-first}
use Rattle.world_spec.specs.OpenLawsObjects.{IsNoSection, IsNoTerminal, section_words-added, terminal_in-added}

-- handles 1 to k name something
abbrev pub HasFirst : List Handle → ℕ → Type 0
HasFirst hs k = (j : ℕ) → 1 ≤ j → j ≤ k → (names : ℕ) × (handle_of hs j ≡ Some names)

-- how many new handles a reply tells
abbrev pub handles_told : Reply → ℕ
handles_told (reply.Handle h) = 1
handles_told (reply.Two h k) = 2
handles_told _ = 0

-- Where a change of a process keeps its number and its life, whoever was alive is alive.
pub live-changed : (w : ℕ) (f : Process → Process) → ((p : Process) → (f p).number ≡ p.number)
    → ((p : Process) → (f p).life ≡ p.life) → (ps : List Process) (v : ℕ) → is_live (process_of ps v) ≡ true
    → is_live (process_of (change_process w f ps) v) ≡ true
live-changed w f number life ps v live = elim (cases_eq v w) [
  | inl n ↦
      let p = live_found (process_of ps w) (ap (λ k. is_live (process_of ps k)) (sym n) ∙ live) in
      ap (λ k. is_live (process_of (change_process w f ps) k)) n
      ∙ found_live (process_of (change_process w f ps) w) (f p.0) (process_of-change_same w f number ps p.0 p.1)
      (ap is_alive (life p.0) ∙ p.2)
  | inr d ↦ ap is_live (process_of-change_other w f number ps v d) ∙ live
]

-- one more handle, the lowest free one: one more of the first handles
pub first-more : (hs : List Handle) (h names k : ℕ) → IsLowestFree hs h → HasFirst hs k
    → HasFirst (with_handle hs h names) (k + 1)
first-more hs h names k lowest first j from most = elim (cases_eq j h) [
  | inl n ↦ (
    names,
    ap (handle_of (with_handle hs h names)) n ∙ handle_of-with_same hs h names lowest.free,
  )
  | inr d ↦ elim (cases_lt j h) [
    | inl before ↦ some_named (handle_of hs j) refl d (lowest.lower j from before)
    | inr after ↦ absurd (let at = first h lowest.from_one (omega (arith, most, after, d)) in
        not_none (handle_of hs h) at.0 at.1 lowest.free)
  ]
]
  where
    some_named : (o : Option ℕ) → handle_of hs j ≡ o → j ≢ h → IsSome o
        → (n : ℕ) × (handle_of (with_handle hs h names) j ≡ Some n)
    some_named None e d is = absurd (let f : false ≡ true = is in cc)
    some_named (Some n) e d is = (n, handle_of-with_other hs h names j d ∙ e)

-- What a call comes to that may give handles to the caller, process w: it is calm, everybody lives on, and as many of
-- its first handles come as the reply tells.
pub record OpensHandles (s : Win32State) (w : ℕ) (r : Reply) (new : Win32State) : Type 0 where
  pub calm : IsCalm s new
  pub lives : (v : ℕ) → is_live_process s v ≡ true → is_live_process new v ≡ true
  pub first : (k : ℕ) → HasFirst (handles_by s w) k → HasFirst (handles_by new w) (k + handles_told r)

-- a refusal
opens_none : (s : Win32State) (w : ℕ) (r : Reply) (new : Win32State) → new ≡ s → handles_told r ≡ 0
    → OpensHandles s w r new
opens_none s w r new e none = record {
  calm = calm-same s new e;
  lives = λ v live. ap (λ n. is_live_process n v) e ∙ live;
  first = λ k has j from most. subst (λ n. (names : ℕ) × (handle_of (handles_by n w) j ≡ Some names)) (sym e)
      (has j from (omega (arith, most, none)));
}

-- The handles of a live process are these, and its others stay among them; the words and the terminal stay.
module _ (s new : Win32State) (w : ℕ) (hs : List Handle) (live : is_live_process s w ≡ true)
    (processes : new.processes ≡ change_process w (λ p. record p { handles = hs }) s.processes) where
  pub new-handles : handles_by new w ≡ hs
  new-handles =
      let p = live_found (process_of s.processes w) live in
      ap handles_of (ap (λ ps. process_of ps w) processes
      ∙ process_of-change_same w (λ q. record q { handles = hs }) (λ q. refl) s.processes p.0 p.1)

  pub new-lives : (v : ℕ) → is_live_process s v ≡ true → is_live_process new v ≡ true
  new-lives v alive =
      ap (λ ps. is_live (process_of ps v)) processes
      ∙ live-changed w (λ q. record q { handles = hs }) (λ q. refl) (λ q. refl) s.processes v alive

  pub calm-handles : ((i : ℕ) → word_in new i ≡ word_in s i) → terminal_in new.objects ≡ terminal_in s.objects
      → ((h names : ℕ) → handle_of (handles_by s w) h ≡ Some names → handle_of hs h ≡ Some names)
      → handle_of hs roster_handle ≡ handle_of (handles_by s w) roster_handle → IsCalm s new
  calm-handles words terminal more roster = record {
    words = words;
    terminal = terminal;
    processes = λ v q f alive.
        elim (changed_process w (λ p. record p { handles = hs }) (λ p. refl) s.processes v q
        (ap (λ ps. process_of ps v) (sym processes) ∙ f)) [
          | inl other ↦ (q, other.1, alive, calm_process q)
          | inr this ↦ (
            this.1,
            ap (process_of s.processes) this.0 ∙ this.2,
            ap (λ (x : Process). is_alive x.life) (sym this.3) ∙ alive,
            subst (λ x. CalmProcess this.1 x) (sym this.3) (record {
              image = record { dat = refl; heap = refl; stack = refl };
              cyg = refl;
              placed = refl;
              suspended = λ t. refl;
              roster = roster ∙ ap (λ o. handle_of (handles_of o) roster_handle) this.2;
              handles = λ h names e. more h names (ap (λ o. handle_of (handles_of o) h) this.2 ∙ e);
            }),
          )
        ];
  }

-- In the state `before` the processes, the words and the terminal are as they are, and one handle comes.
module _ (s before : Win32State) (w names : ℕ) (live : is_live_process s w ≡ true)
    (processes : before.processes ≡ s.processes) (words : section_words before.objects ≡ section_words s.objects)
    (terminal : terminal_in before.objects ≡ terminal_in s.objects) (m : ℕ)
    (roster : named_by s w roster_handle ≡ Some m) where
  one_handle : (r : Reply) (new : Win32State) → IsHandled s before w names reply.Handle r new → OpensHandles s w r new
  one_handle r new given =
      let hs : List Handle = with_handle (handles_by s w) given.handle names in
      let apart : (h n : ℕ) → handle_of (handles_by s w) h ≡ Some n → h ≢ given.handle =
      λ h n e same. not_none (handle_of (handles_by s w) h) n e
      (ap (handle_of (handles_by s w)) same ∙ given.lowest.free) in
      let after : new.processes ≡ change_process w (λ p. record p { handles = hs }) s.processes =
      ap (λ (n : Win32State). n.processes) given.after
      ∙ ap (change_process w (λ p. record p { handles = hs })) processes in
      record {
        calm = calm-handles s new w hs live after
            (λ i. ap (λ o. section_word_in o i) (ap (λ (n : Win32State). section_words n.objects) given.after ∙ words))
            (ap (λ (n : Win32State). terminal_in n.objects) given.after ∙ terminal)
            (λ h n e. handle_of-with_other (handles_by s w) given.handle names h (apart h n e) ∙ e)
            (handle_of-with_other (handles_by s w) given.handle names roster_handle (apart roster_handle m roster));
        lives = new-lives s new w hs live after;
        first = λ k has. subst (λ r. HasFirst (handles_by new w) (k + handles_told r)) (sym given.answered)
            (subst (λ l. HasFirst l (k + 1)) (sym (new-handles s new w hs live after))
            (first-more (handles_by s w) given.handle names k given.lowest has));
      }

-- The calls.
module _ (s : Win32State) (w : ℕ) (live : is_live_process s w ≡ true) (m : ℕ)
    (roster : named_by s w roster_handle ≡ Some m) (r : Reply) (new : Win32State) where
  -- a handle on what is there already
  gets_opens : (names : ℕ) → GetsHandle s w names r new → OpensHandles s w r new
  gets_opens names step =
      by_bool (is_full (handles_by s w) 1) (λ e g. opens_none s w r new g.1 (ap handles_told g.0))
      (λ e given. one_handle s s w names live refl refl refl m roster r new given) step

  -- a handle on a new object
  makes_opens : (x : Object) → IsNoSection x → IsNoTerminal x → MakesObject s w x r new → OpensHandles s w r new
  makes_opens x no_section no_terminal step =
      by_bool (is_full (handles_by s w) 1) (λ e g. opens_none s w r new g.1 (ap handles_told g.0))
      (λ e made. one_handle s (with_new_object s made.number x) w made.number live refl
      (section_words-added made.number x s.objects no_section)
      (terminal_in-added made.number x s.objects no_terminal) m roster r new made.handled) step

  pub event-opens : (manual signalled : Bool) → EventStep s w manual signalled r new → OpensHandles s w r new
  event-opens manual signalled step =
      makes_opens (Event (record { manual = manual; signalled = signalled })) (λ rest. refl) (λ rest. refl) step

  pub mutex-opens : (t : ℕ) (owned : Bool) → MutexStep s w t owned r new → OpensHandles s w r new
  mutex-opens t owned step = makes_opens _ (λ rest. refl) (λ rest. refl) step

  pub open-opens : (v : ℕ) → OpenStep s w v r new → OpensHandles s w r new
  open-opens v step =
      by_option (process_object s.objects v)
      (λ e. by_bool (is_live (process_of s.processes v))
      (λ lives made. makes_opens (ProcessObject v) (λ rest. refl) (λ rest. refl) made)
      (λ dead g. opens_none s w r new g.1 (ap handles_told g.0)))
      (λ o e given. gets_opens o given) step

  pub pipe-opens : PipeStep s w r new → OpensHandles s w r new
  pipe-opens step =
      by_bool (is_full (handles_by s w) 2) (λ e g. opens_none s w r new g.1 (ap handles_told g.0))
      (λ e pipe. by_pipe pipe) step
    where
      by_pipe : IsNewPipe s w r new → OpensHandles s w r new
      by_pipe pipe =
          let old : List Handle = handles_by s w in
          let one : List Handle = with_handle old pipe.read_end pipe.number in
          let hs : List Handle = with_handle one pipe.write_end (pipe.number + 1) in
          let apart : (h n : ℕ) → handle_of old h ≡ Some n → h ≢ pipe.read_end =
          λ h n e same. not_none (handle_of old h) n e (ap (handle_of old) same ∙ pipe.lowest.free) in
          let first_stays : (h n : ℕ) → handle_of old h ≡ Some n → handle_of one h ≡ handle_of old h =
          λ h n e. handle_of-with_other old pipe.read_end pipe.number h (apart h n e) in
          let second_apart : (h n : ℕ) → handle_of old h ≡ Some n → h ≢ pipe.write_end =
          λ h n e same. not_none (handle_of one h) n (first_stays h n e ∙ e)
          (ap (handle_of one) same ∙ pipe.next_lowest.free) in
          let stays : (h n : ℕ) → handle_of old h ≡ Some n → handle_of hs h ≡ handle_of old h =
          λ h n e. handle_of-with_other one pipe.write_end (pipe.number + 1) h (second_apart h n e)
          ∙ first_stays h n e in
          let after : new.processes ≡ change_process w (λ p. record p { handles = hs }) s.processes =
          ap (λ (n : Win32State). n.processes) pipe.after in
          record {
            calm = calm-handles s new w hs live after
                (λ i. ap (λ o. section_word_in o i) (ap (λ (n : Win32State). section_words n.objects) pipe.after
                ∙ section_words-added pipe.number (Pipe []) s.objects (λ rest. refl)))
                (ap (λ (n : Win32State). terminal_in n.objects) pipe.after
                ∙ terminal_in-added pipe.number (Pipe []) s.objects (λ rest. refl))
                (λ h n e. stays h n e ∙ e) (stays roster_handle m roster);
            lives = new-lives s new w hs live after;
            first = λ k has. subst (λ r. HasFirst (handles_by new w) (k + handles_told r)) (sym pipe.answered)
                (subst (λ l. HasFirst l (k + 2)) (sym (new-handles s new w hs live after)) (two hs k
                (first-more one pipe.write_end (pipe.number + 1) (k + 1) pipe.next_lowest
                (first-more old pipe.read_end pipe.number k pipe.lowest has))));
          }
        where
          two : (hs : List Handle) (k : ℕ) → HasFirst hs (k + 1 + 1) → HasFirst hs (k + 2)
          two hs k has j from most = has j from (omega (arith, most))

-- the object of a process, by its number
opened_object : (low : ℕ) (xs : List NumberedObject) (v o : ℕ) → AreRisingObjects low xs → process_object xs v ≡ Some o
    → object_of xs o ≡ Some (ProcessObject v)
opened_object low [] v o r e = absurd (cc)
opened_object low (x ∷ xs) v o r e =
    by_test (is_object_of x.object v) refl e (λ f. opened_object (x.number + 1) xs v o r.2 f)
  where
    by_test : (b : Bool) → is_object_of x.object v ≡ b → (if b then Some x.number else process_object xs v) ≡ Some o
        → (process_object xs v ≡ Some o → object_of xs o ≡ Some (ProcessObject v))
        → object_of (x ∷ xs) o ≡ Some (ProcessObject v)
    by_test true t f rest =
        let n : x.number ≡ o = cc in
        ap (object_of (x ∷ xs)) (sym n) ∙ (found-first x xs ∙ ap (λ y. Some y) (is_its_object x.object v t))
    by_test false t f rest = found-later low x xs r o (ProcessObject v) (rest f)

-- A new handle on a process: it was free before, from 1 up, and names that process.
pub record OpensProcess (s : Win32State) (w v h : ℕ) (new : Win32State) : Type 0 where
  pub lowest : IsLowestFree (handles_by s w) h
  pub names : ℕ
  pub named : named_by new w h ≡ Some names
  pub object : object_of new.objects (object_number names) ≡ Some (ProcessObject v)

pub process-opens : (script : Script) (s : Win32State) → IsWellFormed script s → (w v : ℕ)
    → is_live_process s w ≡ true → (r : Reply) (new : Win32State) → OpenStep s w v r new → (h : ℕ)
    → r ≡ reply.Handle h → OpensProcess s w v h new
process-opens script s formed w v live r new step h told =
    by_option (process_object s.objects v)
    (λ e. by_bool (is_live (process_of s.processes v))
    (λ lives made. by_bool (is_full (handles_by s w) 1)
    (λ f g. absurd (let e : reply.TableFull ≡ reply.Handle h = sym g.0 ∙ told in cc))
    (λ f given. by_handle (with_new_object s given.number (ProcessObject v)) given.number refl given.fresh.even
    (object_of-add_new given.number (ProcessObject v) s.objects given.fresh.free) given.handled) made)
    (λ dead g. absurd (let e : reply.Unknown ≡ reply.Handle h = sym g.0 ∙ told in cc)))
    (λ o e. by_bool (is_full (handles_by s w) 1)
    (λ f g. absurd (let e : reply.TableFull ≡ reply.Handle h = sym g.0 ∙ told in cc))
    (λ f given.
    let found = opened_object 0 s.objects v o formed.formed.objects e in
    let bound = rising_objects-bound 0 s.objects o (ProcessObject v) formed.formed.objects found in
    by_handle s o refl bound.1 found given)) step
  where
    by_handle : (before : Win32State) (o : ℕ) → before.processes ≡ s.processes → object_number o ≡ o
        → object_of before.objects o ≡ Some (ProcessObject v) → IsHandled s before w o reply.Handle r new
        → OpensProcess s w v h new
    by_handle before o processes even found given =
        let answer : reply.Handle given.handle ≡ reply.Handle h = sym given.answered ∙ told in
        let same : given.handle ≡ h = cc in
        let hs : List Handle = with_handle (handles_by s w) given.handle o in
        let after : new.processes ≡ change_process w (λ p. record p { handles = hs }) s.processes =
        ap (λ (n : Win32State). n.processes) given.after
        ∙ ap (change_process w (λ p. record p { handles = hs })) processes in
        record {
          lowest = subst (IsLowestFree (handles_by s w)) same given.lowest;
          names = o;
          named = ap (λ l. handle_of l h) (new-handles s new w hs live after)
              ∙ (ap (handle_of hs) (sym same) ∙ handle_of-with_same (handles_by s w) given.handle o given.lowest.free);
          object = ap (λ (n : Win32State). object_of n.objects (object_number o)) given.after
              ∙ (ap (object_of before.objects) even ∙ found);
        }
