-- What the tables show after a handle is closed in them is what that leaves of the state that they showed.
use Rattle.std.proofs.Common.{◌≡◌, ℕ, ◌+◌, ◌<◌, true, List, Option, Some, None, IsSome, refl, sym, ap, ◌∙◌, arith}
use Rattle.w32_base.specs.declared.call.Call.{Call}
use Rattle.script_spec.specs.declared.script.Script.{Script}
use Rattle.win32_spec.specs.Handles.{handle_of, without_handle}
use Rattle.win32_spec.specs.State.{Object, ProcessObject, NumberedObject, PlacedModule, Process, Win32State}
use Rattle.win32_spec.specs.Lookup.{process_of, is_live, object_number, object_of, with_handles}
use Rattle.win32_spec.specs.Ends.{is_process_held, kept_processes, swept}
use Rattle.win32_spec.specs.WellFormed.{IsWellFormed}
use Rattle.win32_spec.specs.LookupLaws.{not_none}
use Rattle.w32_handles.specs.Table.{HeldObject}
use Rattle.w32_handles.specs.Shown.{objects_of, without_object}
use Rattle.w32_handles.specs.Counted.{all_holders_on}
use Rattle.w32_process.specs.declared.kept.Kept.{Kept as KeptProcess}
use Rattle.w32_process.specs.Table.{Table, place_at, number_at, code_of, without_kept, with_handles as with_handles_at}
use Rattle.w32_process.specs.Sound.{IsSound}
use Rattle.w32_process.specs.SoundLaws.{within_slots, IsSound-same}
use Rattle.w32_process.specs.Processes.{kept_process, live_process, processes_of}
use Rattle.w32_process.specs.TableLaws.{kept_at, process_kept, code_of-kept, IsInNone}
use Rattle.w32_process.specs.FoundLaws.{process_of-live, process_of-aside, process_of-ended}
use Rattle.w32_process.specs.ChangeLaws.{processes-with_handles}
use Rattle.w32_process.specs.ForgetLaws.{processes-forget}
use Rattle.w32_process.specs.CloseLaws.{closed, holders-less, close-stays, close-drops, close-others, close-drops_alone}
use Rattle.w32_process.specs.CloseLaws.{close-unheld}

-- the state that the tables show
abbrev pub state_of : {K : Type 0} → (posted : ℕ → ℕ → Call) (placed : ℕ → List PlacedModule) → (K → Object) → Table
    → List (Option (HeldObject K)) → List ℕ → Win32State
state_of posted placed f t places keys = record {
  processes = processes_of posted placed t;
  objects = objects_of f places;
  next = t.next;
  keys = keys;
}

module _ {K : Type 0} (script : Script) (posted : ℕ → ℕ → Call) (placed : ℕ → List PlacedModule) (f : K → Object)
    (t : Table) (sound : IsSound t) (places : List (Option (HeldObject K))) (keys : List ℕ)
    (h : IsWellFormed script (state_of posted placed f t places keys)) where
  -- a process of which there is an object, and that doesn't live, is kept
  pub kept-known : (o v : ℕ) → object_of (objects_of f places) o ≡ Some (ProcessObject v) → IsInNone t.slots v
      → IsSome (code_of t.kept v)
  kept-known o v e none =
      let there = h.formed.object o (ProcessObject v) e in
      by_kept there.0 there.1 (kept_at t.kept v) refl
    where
      by_kept : (q : Process) → process_of (processes_of posted placed t) v ≡ Some q → (k : Option KeptProcess)
          → kept_at t.kept v ≡ k → IsSome (code_of t.kept v)
      by_kept q g (Some e) i = rw (code_of-kept t.kept v e i) refl
      by_kept q g None i =
          absurd (not_none (process_of (processes_of posted placed t) v) q g
          (process_of-aside posted placed t sound v none ∙ ap process_kept i))

  module _ (slot w : ℕ) (stands : number_at t.slots slot ≡ Some w) (k names : ℕ)
      (named : handle_of (place_at t.slots slot).handles k ≡ Some names) (left : List (Option (HeldObject K))) where
    abbrev s : Win32State
    s = state_of posted placed f t places keys

    abbrev gone : ℕ
    gone = object_number names

    abbrev p : Process
    p = live_process posted placed slot w (place_at t.slots slot)

    abbrev table : Table
    table = with_handles_at t slot (without_handle (place_at t.slots slot).handles k)

    found : process_of (processes_of posted placed t) w ≡ Some p
    found = process_of-live posted placed t sound slot w stands

    sound_after : IsSound table
    sound_after =
        IsSound-same t.next t.slots t.kept slot
        (record (place_at t.slots slot) { handles = without_handle (place_at t.slots slot).handles k })
        (within_slots t.slots slot w stands) refl sound

    changed : processes_of posted placed table ≡ closed script s h w p found refl k names named
    changed =
        processes-with_handles posted placed t sound slot w stands
        (without_handle (place_at t.slots slot).handles k)

    less : all_holders_on (closed script s h w p found refl k names named) gone + 1 ≡
        all_holders_on (processes_of posted placed t) gone
    less = holders-less script s h w p found refl k names named

    -- others hold its object
    pub closed-stays : 1 < all_holders_on (processes_of posted placed t) gone
        → objects_of f left ≡ objects_of f places
        → state_of posted placed f table left keys ≡
        swept (with_handles s w (without_handle (place_at t.slots slot).handles k))
    closed-stays some same =
        ap (λ (ps : List Process). record (state_of posted placed f table left keys) { processes = ps }) changed
        ∙ ap (λ (xs : List NumberedObject). record s {
          processes = closed script s h w p found refl k names named;
          objects = xs;
        }) same
        ∙ sym (close-stays script s h w p found refl k names named (omega (arith, less)))

    -- its object goes, and no process
    pub closed-drops : all_holders_on (processes_of posted placed t) gone ≡ 1
        → objects_of f left ≡ without_object gone (objects_of f places)
        → ((v : ℕ) → object_of (objects_of f places) gone ≡ Some (ProcessObject v)
        → is_live (process_of (processes_of posted placed t) v) ≡ true)
        → state_of posted placed f table left keys ≡
        swept (with_handles s w (without_handle (place_at t.slots slot).handles k))
    closed-drops one dropped lives =
        ap (λ (ps : List Process). record (state_of posted placed f table left keys) { processes = ps })
        (changed ∙ sym (close-drops_alone script s h w p found refl k names named lives))
        ∙ ap (λ (xs : List NumberedObject). record s {
          processes = kept_processes (without_object gone (objects_of f places))
              (closed script s h w p found refl k names named);
          objects = xs;
        }) dropped
        ∙ sym (close-drops script s h w p found refl k names named (omega (arith, less)))

    -- its object goes, and with it the ended process whose it was
    pub closed-forgets : all_holders_on (processes_of posted placed t) gone ≡ 1
        → objects_of f left ≡ without_object gone (objects_of f places) → (v : ℕ)
        → object_of (objects_of f places) gone ≡ Some (ProcessObject v)
        → state_of posted placed f (record table { kept = without_kept t.kept v }) left keys ≡
        swept (with_handles s w (without_handle (place_at t.slots slot).handles k))
    closed-forgets one dropped v its =
        ap (λ (ps : List Process). record (state_of posted placed f table left keys) { processes = ps })
        (processes-forget posted placed (without_object gone (objects_of f places)) table sound_after v
        (close-unheld script s h w p found refl k names named v its) others
        ∙ ap (kept_processes (without_object gone (objects_of f places))) changed)
        ∙ ap (λ (xs : List NumberedObject). record s {
          processes = kept_processes (without_object gone (objects_of f places))
              (closed script s h w p found refl k names named);
          objects = xs;
        }) dropped
        ∙ sym (close-drops script s h w p found refl k names named (omega (arith, less)))
      where
        others : (u : ℕ) (e : KeptProcess) → kept_at t.kept u ≡ Some e → (u ≡ v → ⊥)
            → is_process_held (without_object gone (objects_of f places)) u ≡ true
        others u e kept d =
            close-others script s h w p found refl k names named u (kept_process e)
            (ap (λ ps. process_of ps u) (sym changed) ∙ process_of-ended posted placed table sound_after u e kept) refl
            (λ same. d (let g : Some (ProcessObject u) ≡ Some (ProcessObject v) = sym same ∙ its in cc))
