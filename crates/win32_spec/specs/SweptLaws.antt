-- What is left when nothing stands that nobody holds is well formed.
use Rattle.std.proofs.Common.{◌≡◌, ℕ, true, ◌||◌, Some, refl, ap}
use Rattle.script_spec.specs.declared.script.Script.{Script}
use Rattle.win32_spec.specs.Handles.{handle_of}
use Rattle.win32_spec.specs.Objects.{Free, Owned, Abandoned}
use Rattle.win32_spec.specs.State.{Object, Section, Event, Mutex, Pipe, ProcessObject, TerminalObject, Life, Alive}
use Rattle.win32_spec.specs.State.{Ended, Process, Win32State}
use Rattle.win32_spec.specs.Lookup.{is_alive, process_of, object_number, object_of}
use Rattle.win32_spec.specs.Ends.{is_object_held, held_objects, is_process_held, kept_processes, swept}
use Rattle.win32_spec.specs.WellFormed.{IsListed, IsProcessBy, IsObject, IsFormed, IsWellFormed}
use Rattle.win32_spec.specs.LookupLaws.{or_left, or_right}
use Rattle.win32_spec.specs.HeldLaws.{held-by, is-held, held_object, held_object-stays, rising-held, is-process_held}
use Rattle.win32_spec.specs.HeldLaws.{kept_process, kept_process-stays, rising-kept}
use Rattle.win32_spec.specs.FormedLaws.{to_listed, from_listed, live_found, found_live, have_rising}

module _ (script : Script) (s : Win32State) (h : IsFormed script s) where
  kept : (w : ℕ) (p : Process) → process_of (kept_processes (held_objects s.processes s.objects) s.processes) w ≡ Some p
      → (process_of s.processes w ≡ Some p)
      × ((is_alive p.life || is_process_held (held_objects s.processes s.objects) w) ≡ true)
  kept w p e = kept_process (held_objects s.processes s.objects) 1 s.next s.processes w p h.processes e

  stays_alive : (w : ℕ) (p : Process) → process_of s.processes w ≡ Some p → is_alive p.life ≡ true
      → process_of (kept_processes (held_objects s.processes s.objects) s.processes) w ≡ Some p
  stays_alive w p e alive =
      kept_process-stays (held_objects s.processes s.objects) s.processes w p e
      (or_left (is_alive p.life) (is_process_held (held_objects s.processes s.objects) w) alive)

  -- what a handle of a live process names stays listed
  stays_listed : (w : ℕ) (p : Process) → process_of s.processes w ≡ Some p → is_alive p.life ≡ true → (k names : ℕ)
      → handle_of p.handles k ≡ Some names → IsListed s.objects names
      → IsListed (held_objects s.processes s.objects) names
  stays_listed w p e alive k names n listed =
      let at = from_listed s.objects names listed in
      let held : is_object_held s.processes (object_number names) ≡ true =
      is-held s.processes (object_number names)
      (record {
        number = w;
        process = p;
        found = e;
        alive = alive;
        handle = k;
        names = names;
        named = n;
        object =
            refl;
      }) in
      to_listed (held_objects s.processes s.objects) names at.0
      (held_object-stays s.processes s.objects (object_number names) at.0 at.1 held) at.2

  swept_process : (w : ℕ) (p : Process) → process_of s.processes w ≡ Some p
      → IsProcessBy script (held_objects s.processes s.objects) p p.life
  swept_process w p e = by_life p.life refl (h.process w p e)
    where
      by_life : (life : Life) → p.life ≡ life → IsProcessBy script s.objects p life
          → IsProcessBy script (held_objects s.processes s.objects) p life
      by_life Alive l f =
          record {
            kind = f.kind;
            threads = f.threads;
            rising = f.rising;
            naming = λ k names n. stays_listed w p e (ap is_alive l) k names n (f.naming k names n);
          }
      by_life (Ended code) l f = record { threads = f.threads; handles = f.handles; own = f.own; placed = f.placed }

  swept_object : (o : ℕ) (x : Object) → object_of (held_objects s.processes s.objects) o ≡ Some x
      → IsObject s.processes x
      → IsObject (kept_processes (held_objects s.processes s.objects) s.processes) x
  swept_object o (Section words) e i = i
  swept_object o (Event event) e i = tt
  swept_object o (Mutex Free) e i = tt
  swept_object o (Mutex Abandoned) e i = tt
  swept_object o (Mutex (Owned v t)) e i =
      let p = live_found (process_of s.processes v) i.0 in (
        found_live (process_of (kept_processes (held_objects s.processes s.objects) s.processes) v) p.0
            (stays_alive v p.0 p.1 p.2) p.2,
        i.1,
      )
  swept_object o (Pipe bytes) e i = i
  swept_object o (ProcessObject v) e i = (
    i.0,
    kept_process-stays (held_objects s.processes s.objects) s.processes v i.0 i.1
        (or_right (is_alive i.0.life) (is_process_held (held_objects s.processes s.objects) v)
        (is-process_held (held_objects s.processes s.objects) v o e)),
  )
  swept_object o (TerminalObject terminal) e i = tt

  swept_formed : IsFormed script (swept s)
  swept_formed = record {
    next = h.next;
    processes = rising-kept (held_objects s.processes s.objects) 1 s.next s.processes h.processes;
    objects = rising-held s.processes 0 s.objects h.objects;
    process = λ w p e. swept_process w p (kept w p e).0;
    one_a_slot = λ v w p q e f a b c. h.one_a_slot v w p q (kept v p e).0 (kept w q f).0 a b c;
    object = λ o x e. swept_object o x e (h.object o x (held_object s.processes s.objects o x e).0);
    only = λ a b x y k e f m n.
        h.only a b x y k (held_object s.processes s.objects a x e).0 (held_object s.processes s.objects b y f).0 m n;
  }

  pub wellformed-swept : IsWellFormed script (swept s)
  wellformed-swept = record {
    formed = swept_formed;
    object_held = λ o x e.
        let at = held-by 1 s.next s.processes o h.processes (have_rising script s h)
        (held_object s.processes s.objects o x e).1 in
        is-held (kept_processes (held_objects s.processes s.objects) s.processes) o
        (record {
          number = at.number;
          process = at.process;
          found = stays_alive at.number at.process at.found at.alive;
          alive = at.alive;
          handle = at.handle;
          names = at.names;
          named = at.named;
          object = at.object;
        });
    process_held = λ w p e dead. let keep = (kept w p e).1 in rw dead at keep;
  }
