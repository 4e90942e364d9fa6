-- The faults of some texts, and a text without one.
use Rattle.std.proofs.Common.{◌≡◌, ℕ, List, [], ◌++◌, refl, Some, None}
use Rattle.std.specs.Prelude.{codes}
use Rattle.script_spec.specs.declared.fault.Kind.TheVariants as kind
use Rattle.script_spec.specs.FirstFault.{fault_of}

no_line : fault_of [] ≡ Some (1, kind.NoHeader)
no_line = refl

other_header : fault_of (codes "cygscript 2\n") ≡ Some (1, kind.NoHeader)
other_header = refl

many_slots : fault_of (codes "cygscript 1\nslots 65\n") ≡ Some (2, kind.Range)
many_slots = refl

abbrev head : List ℕ
head = codes "cygscript 1\nslots 1\nrows 1\nbudget 100000\nprogram main heap 0 stack 64\n"

far_target : fault_of (head ++ codes "jump 9\nschedule\nsettle\n") ≡ Some (6, kind.Target)
far_target = refl

no_schedule : fault_of (head ++ codes "exit 0\n") ≡ Some (7, kind.Missing)
no_schedule = refl

a_script : fault_of
    (head ++ codes "# a line\n\naction r3 handler 1 restart\nexit -5\nschedule\nturn 1 2\nkey 0a\nsettle\n") ≡ None
a_script = refl

a_faulty_line_bars_target : fault_of (head ++ codes "jump 9\nexit -0\nschedule\nsettle\n") ≡ Some (7, kind.BadNumber)
a_faulty_line_bars_target = refl
