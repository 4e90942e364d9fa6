-- Changes that touch nothing which is shown: the words of the section, the terminal, and of each live process its
-- image, cygheap, modules, suspend counts and handles stay; handles may come. Most turns make no other.
use Rattle.std.specs.Prelude.{◌≡◌, ℕ, Bool, true, false, Option, Some, None}
use Rattle.w32_base.specs.Part.{KeepsImage}
use Rattle.w32_base.specs.declared.call.Call.{Call}
use Rattle.w32_base.specs.declared.call.Call.TheVariants as call
use Rattle.w32_base.specs.declared.call.TtyOp.{TtyOp}
use Rattle.w32_base.specs.declared.call.TtyOp.TheVariants as tty
use Rattle.win32_spec.specs.Handles.{handle_of}
use Rattle.win32_spec.specs.State.{Process, Win32State}
use Rattle.win32_spec.specs.Lookup.{is_alive, process_of, thread_in, terminal_in}
use Rattle.layer_spec.specs.Words.{word_in}
use Rattle.roster.specs.Turns.{roster_handle}
use Rattle.world_spec.specs.Facts.{suspended_by}

-- a process before and after such a change
pub record CalmProcess (p q : Process) : Type 0 where
  pub image : KeepsImage p.own q.own
  pub cyg : q.own.cyg ≡ p.own.cyg
  pub placed : q.placed ≡ p.placed
  pub suspended : (t : ℕ) → suspended_by (thread_in q.threads t) ≡ suspended_by (thread_in p.threads t)
  pub roster : handle_of q.handles roster_handle ≡ handle_of p.handles roster_handle
  pub handles : (h names : ℕ) → handle_of p.handles h ≡ Some names → handle_of q.handles h ≡ Some names

-- each process that is alive after it was alive before it, and shows the same
abbrev pub AreCalm : (s new : Win32State) → Type 0
AreCalm s new = (v : ℕ) (q : Process) → process_of new.processes v ≡ Some q → is_alive q.life ≡ true
    → (p : Process) × (process_of s.processes v ≡ Some p) × (is_alive p.life ≡ true) × CalmProcess p q

-- the state before and after
pub record IsCalm (s new : Win32State) : Type 0 where
  pub words : (i : ℕ) → word_in new i ≡ word_in s i
  pub terminal : terminal_in new.objects ≡ terminal_in s.objects
  pub processes : AreCalm s new

-- A call that the discipline doesn't speak of, that writes no other process's bytes and ends none; or none.
abbrev pub is_plain_op : TtyOp → Bool
is_plain_op tty.Key = false
is_plain_op _ = true

abbrev pub is_plain_call : Call → Bool
is_plain_call (call.FetchAdd h i n) = false
is_plain_call (call.Create program_no list) = false
is_plain_call (call.Terminate h code) = false
is_plain_call (call.ExitSelf code) = false
is_plain_call (call.WriteMemory h region place own_region own_place count) = false
is_plain_call (call.Module m) = false
is_plain_call (call.Tty h op) = is_plain_op op
is_plain_call _ = true

abbrev pub is_plain : Option Call → Bool
is_plain None = true
is_plain (Some c) = is_plain_call c
