-- A state in which the handles of a process are closed one after another.
use Rattle.std.proofs.Common.{◌≡◌, inl, inr, ℕ, ◌+◌, ◌<◌, Bool, true, false, ◌&&◌, ◌||◌, nat_eq}
use Rattle.std.proofs.Common.{if◌then◌else◌, List, [], ◌∷◌, Some, None, refl, sym, ap, ◌∙◌, arith}
use Rattle.std.proofs.lemmas.Bool.{cases_eq}
use Rattle.script_spec.specs.declared.script.Script.{Script}
use Rattle.win32_spec.specs.Handles.{Handle, handle_of, without_handle, AreRisingFrom}
use Rattle.win32_spec.specs.State.{NumberedObject, Process, Win32State}
use Rattle.win32_spec.specs.Lookup.{is_alive, process_of, process_in, number_of, number_in, change_process}
use Rattle.win32_spec.specs.Lookup.{with_handles}
use Rattle.win32_spec.specs.Ends.{held_objects, is_process_held, kept_processes, swept}
use Rattle.win32_spec.specs.Named.{handles_of, handles_by}
use Rattle.win32_spec.specs.WellFormed.{IsWellFormed}
use Rattle.win32_spec.specs.LookupLaws.{same, not_none, process_of-change_same, process_of-change_other}
use Rattle.win32_spec.specs.LookupLaws.{rising-change_process}
use Rattle.win32_spec.specs.HandleLaws.{handle_of-below, handle_of-without_same, handle_of-without_other}
use Rattle.win32_spec.specs.HandleLaws.{rising-without}
use Rattle.win32_spec.specs.FormedLaws.{have_rising}
use Rattle.w32_process.specs.ProcessLaws.{Finds, same_processes}
use Rattle.w32_process.specs.SweepLaws.{held-all, kept-all}
use Rattle.w32_process.specs.ClosingLaws.{AreAmong, held, later, later-objects, later-processes, mid_here}

-- A well-formed state has nothing that nobody holds.
pub swept-same : (script : Script) (s : Win32State) → IsWellFormed script s → swept s ≡ s
swept-same script s h =
    ap (λ (xs : List NumberedObject). record s { processes = kept_processes xs s.processes; objects = xs })
    (held-all s.processes 0 s.objects h.formed.objects h.object_held)
    ∙ ap (λ (ps : List Process). record s { processes = ps })
    (kept-all s.objects 1 s.next s.processes h.formed.processes h.process_held)

-- handles that are rising and of which none has a number up to 64 are none
pub no_handles : (hs : List Handle) → AreRisingFrom 1 hs → ((k : ℕ) → k < 65 → handle_of hs k ≡ None) → hs ≡ []
no_handles [] r closed = refl
no_handles (p ∷ hs) r closed =
    let s = same p.number p.number refl in
    let e : Some p.names ≡ None = rw s at (closed p.number (omega (arith, r.1))) in absurd (cc)

-- The handles of process w with numbers below one on are closed: what is left of them, with nothing that nobody holds.
pub record IsClosing (s mid : Win32State) (w first : ℕ) : Type 0 where
  pub handles : List Handle
  pub after : mid ≡ swept (with_handles s w handles)
  pub rising : AreRisingFrom 1 handles
  pub among : AreAmong handles (handles_by s w)
  pub closed : (k : ℕ) → k < first → handle_of handles k ≡ None

module _ (script : Script) (s : Win32State) (h : IsWellFormed script s) (w : ℕ) (p : Process)
    (found : process_of s.processes w ≡ Some p) (alive : is_alive p.life ≡ true) where
  its_handles : handles_by s w ≡ p.handles
  its_handles = ap handles_of found

  rising_handles : AreRisingFrom 1 p.handles
  rising_handles = have_rising script s h.formed w p found alive

  -- the state with the handles that the process has
  pub same_handles : change_process w (λ x. record x { handles = p.handles }) s.processes ≡ s.processes
  same_handles =
      same_processes 1 s.next 1 s.next (change_process w (λ x. record x { handles = p.handles }) s.processes)
      s.processes
      (rising-change_process w (λ x. record x { handles = p.handles }) (λ x. refl) 1 s.next s.processes
      h.formed.processes) h.formed.processes finds
    where
      finds : Finds (change_process w (λ x. record x { handles = p.handles }) s.processes) s.processes
      finds v =
          elim (cases_eq v w) [
            | inl n ↦ rw n (process_of-change_same w (λ x. record x { handles = p.handles }) (λ x. refl) s.processes p
                found ∙ sym found)
            | inr d ↦ process_of-change_other w (λ x. record x { handles = p.handles }) (λ x. refl) s.processes v d
          ]

  -- fewer handles, after others: as if there had been the fewer at once
  pub swept-fewer : (hs fewer : List Handle) → AreRisingFrom 1 hs → AreRisingFrom 1 fewer → AreAmong fewer hs
      → swept (with_handles (swept (with_handles s w hs)) w fewer) ≡ swept (with_handles s w fewer)
  swept-fewer hs fewer r fewer_rising among =
      let rising = h.formed.processes in
      let objects = h.formed.objects in
      let handles = have_rising script s h.formed in
      ap (λ (xs : List NumberedObject). record s {
        processes = kept_processes xs (later s.next s.processes s.objects w p rising objects handles found alive hs
            fewer r fewer_rising among);
        objects = xs;
      })
      (later-objects s.next s.processes s.objects w p rising objects handles found alive hs fewer r fewer_rising among)
      ∙ ap (λ (ps : List Process). record s {
        processes = ps;
        objects = held s.next s.processes s.objects w p rising objects handles found alive fewer;
      })
      (later-processes s.next s.processes s.objects w p rising objects handles found alive hs fewer r fewer_rising
      among)

  pub closing-start : IsClosing s s w 1
  closing-start = record {
    handles = p.handles;
    after = sym (ap (λ (ps : List Process). swept (record s { processes = ps })) same_handles
        ∙ swept-same script s h);
    rising = rising_handles;
    among = λ k names e. ap (λ hs. handle_of hs k) its_handles ∙ e;
    closed = λ k l. handle_of-below 1 p.handles k rising_handles l;
  }

  -- the process is there still, with what is left of its handles
  pub closing-found : (mid : Win32State) (first : ℕ) (c : IsClosing s mid w first)
      → process_of mid.processes w ≡ Some (record p { handles = c.handles })
  closing-found mid first c =
      ap (λ (m : Win32State). process_of m.processes w) c.after
      ∙ mid_here s.next s.processes s.objects w p h.formed.processes h.formed.objects (have_rising script s h.formed)
      found alive c.handles c.handles c.rising c.rising (λ k names e. e)

  pub closing-handles : (mid : Win32State) (first : ℕ) (c : IsClosing s mid w first) → handles_by mid w ≡ c.handles
  closing-handles mid first c = ap handles_of (closing-found mid first c)

  pub closing-absent : (mid : Win32State) (k : ℕ) → IsClosing s mid w k → handle_of (handles_by mid w) k ≡ None
      → IsClosing s mid w (k + 1)
  closing-absent mid k c absent = record {
    handles = c.handles;
    after = c.after;
    rising = c.rising;
    among = c.among;
    closed = λ j l. elim (cases_eq j k) [
      | inl e ↦ ap (handle_of c.handles) e
          ∙ ap (λ hs. handle_of hs k) (sym (closing-handles mid k c)) ∙ absent
      | inr d ↦ c.closed j (omega arith)
    ];
  }

  pub closing-next : (mid new : Win32State) (k : ℕ) → IsClosing s mid w k
      → new ≡ swept (with_handles mid w (without_handle (handles_by mid w) k))
      → IsClosing s new w (k + 1)
  closing-next mid new k c step = record {
    handles = without_handle c.handles k;
    after = step
        ∙ ap (λ hs. swept (with_handles mid w (without_handle hs k))) (closing-handles mid k c)
        ∙ ap (λ (m : Win32State). swept (with_handles m w (without_handle c.handles k))) c.after
        ∙ swept-fewer c.handles (without_handle c.handles k) c.rising (rising-without 1 c.handles k c.rising) fewer;
    rising = rising-without 1 c.handles k c.rising;
    among = λ j names e. c.among j names (fewer j names e);
    closed = λ j l. elim (cases_eq j k) [
      | inl e ↦ ap (handle_of (without_handle c.handles k)) e ∙ handle_of-without_same c.handles k
      | inr d ↦ handle_of-without_other c.handles k j d ∙ c.closed j (omega arith)
    ];
  }
    where
      fewer : AreAmong (without_handle c.handles k) c.handles
      fewer j names e =
          elim (cases_eq j k) [
            | inl n ↦ absurd (not_none (handle_of (without_handle c.handles k) k) names
                (ap (handle_of (without_handle c.handles k)) (sym n) ∙ e) (handle_of-without_same c.handles k))
            | inr d ↦ sym (handle_of-without_other c.handles k j d) ∙ e
          ]

  -- after the last number it has no handle
  pub closing-all : (mid : Win32State) → IsClosing s mid w 65 → mid ≡ swept (with_handles s w [])
  closing-all mid c =
      c.after ∙ ap (λ hs. swept (with_handles s w hs)) (no_handles c.handles c.rising c.closed)

  pub closing-empty : (mid : Win32State) → IsClosing s mid w 65
      → process_of mid.processes w ≡ Some (record p { handles = [] })
  closing-empty mid c =
      closing-found mid 65 c
      ∙ ap (λ hs. Some (record p { handles = hs })) (no_handles c.handles c.rising c.closed)

-- The live process of a slot, where handles change and ended processes go.
pub process_in-kept : (os : List NumberedObject) (ps : List Process) (slot : ℕ)
    → process_in (kept_processes os ps) slot ≡ process_in ps slot
process_in-kept os [] slot = refl
process_in-kept os (p ∷ ps) slot =
    by_life (is_alive p.life) refl (is_process_held os p.number) (process_in-kept os ps slot)
  where
    by_life : (b : Bool) → is_alive p.life ≡ b → (c : Bool)
        → process_in (kept_processes os ps) slot ≡ process_in ps slot
        → process_in (if b || c then p ∷ kept_processes os ps else kept_processes os ps) slot ≡
        process_in (p ∷ ps) slot
    by_life true e c rest = rw rest refl
    by_life false e true rest = rw (e, rest) refl
    by_life false e false rest = rw e rest

pub number_of-with_handles : (w : ℕ) (hs : List Handle) (ps : List Process) (slot : ℕ)
    → number_of (process_in (change_process w (λ x. record x { handles = hs }) ps) slot) ≡
    number_of (process_in ps slot)
number_of-with_handles w hs [] slot = refl
number_of-with_handles w hs (p ∷ ps) slot =
    by_test (nat_eq p.number w) (number_of-with_handles w hs ps slot)
  where
    rest : List Process
    rest = change_process w (λ x. record x { handles = hs }) ps

    by_test : (b : Bool) → number_of (process_in rest slot) ≡ number_of (process_in ps slot)
        → number_of (process_in ((if b then record p { handles = hs } else p) ∷ rest) slot) ≡
        number_of (process_in (p ∷ ps) slot)
    by_test true same = by_slot (is_alive p.life && nat_eq p.slot slot) same
      where
        by_slot : (d : Bool) → number_of (process_in rest slot) ≡ number_of (process_in ps slot)
            → number_of (if d then Some (record p { handles = hs }) else process_in rest slot) ≡
            number_of (if d then Some p else process_in ps slot)
        by_slot true e = refl
        by_slot false e = e
    by_test false same = by_slot (is_alive p.life && nat_eq p.slot slot) same
      where
        by_slot : (d : Bool) → number_of (process_in rest slot) ≡ number_of (process_in ps slot)
            → number_of (if d then Some p else process_in rest slot) ≡
            number_of (if d then Some p else process_in ps slot)
        by_slot true e = refl
        by_slot false e = e

-- so numbers stay in their slots
pub number_in-closing : (s mid : Win32State) (w first slot : ℕ) → IsClosing s mid w first
    → number_in mid slot ≡ number_in s slot
number_in-closing s mid w first slot c =
    ap (λ (m : Win32State). number_in m slot) c.after
    ∙ ap number_of (process_in-kept (held_objects (with_handles s w c.handles).processes s.objects)
    (with_handles s w c.handles).processes slot)
    ∙ number_of-with_handles w c.handles s.processes slot
