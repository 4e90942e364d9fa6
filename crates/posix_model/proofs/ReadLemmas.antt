-- Lemmas of reads.
use Rattle.std.proofs.Common.{◌≡◌, ℕ, ◌+◌, ◌<◌, ◌≤◌, ℤ, pos, negsuc, min, Bool, true, false, cond, ◌&&◌, nat_eq, nat_lt}
use Rattle.std.proofs.Common.{List, [], ◌∷◌, length, take, Option, Some, None, refl, sym, ◌∙◌, ap, arith, lt-ltb}
use Rattle.std.proofs.Common.{ltb-false, length-take, subst, true≢false}
use Rattle.std.proofs.lemmas.Option.{same_Some}
use Rattle.w32_base.specs.declared.instr.Instr.{Instr}
use Rattle.w32_base.specs.declared.instr.Instr.TheVariants as instr
use Rattle.script_spec.specs.declared.script.Script.{Script}
use Rattle.tty_spec.specs.Discipline.{Taken, taking, after_take}
use Rattle.tty_spec.specs.Terminal.{Terminal}
use Rattle.tty_line.specs.Peek.{bytes_taken}
use Rattle.vm_spec.specs.Faults.{is_range_outside}
use Rattle.vm_spec.specs.Image.{value_of}
use Rattle.vm_spec.specs.Step.{address_of}
use Rattle.posix_spec.specs.CallLaws.{IsCalling, next_call}
use Rattle.posix_spec.specs.Checks.{is_allowed, count_of, read_check}
use Rattle.posix_spec.specs.Conditions.{code_of}
use Rattle.posix_spec.specs.Numbers.{for_value}
use Rattle.posix_spec.specs.State.{Record, PosixState}
use Rattle.posix_spec.specs.TerminalSteps.{read_from, line_by, line_step}
use Rattle.posix_model.specs.Reads.{reading_of, HasRoom}

-- the state after these bytes are taken from the terminal
abbrev pub line_from : PosixState → ℕ → ℤ → List ℕ → ℕ × ℕ → Option PosixState
line_from s p n bytes a = for_value (read_from s.terminal a.1) (line_by s p n bytes a.0)

read_if : (b : Bool) (a : ℕ × ℕ) (next : ℕ × ℕ → Option PosixState) → (let o : Option (ℕ × ℕ) = cond b (Some a) None in
    cond b (next a) None ≡ for_value o next)
read_if true a next = refl
read_if false a next = refl

pub line_step-is : (s : PosixState) (p : ℕ) (n : ℤ) (bytes : List ℕ) (r : Record) (i : Instr) →
    line_step s p n bytes r i ≡ for_value (reading_of s r i) (line_from s p n bytes)
line_step-is s p n bytes r (instr.Read address count) =
    read_if (is_allowed (read_check s r)) (address_of (value_of r.image address), count_of (value_of r.image count))
    (line_from s p n bytes)
line_step-is s p n bytes r _ = refl

pub none_taken : (o : Option Taken) → None ≡ bytes_taken o → o ≡ None
none_taken None e = refl
none_taken (Some taken) e = cc

pub some_taken : (o : Option Taken) (found : List ℕ) → Some found ≡ bytes_taken o → (taken : Taken) × (o ≡ Some taken) ×
    (taken.bytes ≡ found)
some_taken None found e = cc
some_taken (Some taken) found e = (taken, refl, sym (same_Some found taken.bytes e))

-- what is there was told before
pub same_taken : (o : Option Taken) (found : List ℕ) (taken : Taken) → Some found ≡ bytes_taken o → o ≡ Some taken →
    taken.bytes ≡ found
same_taken o found taken e f = sym (same_Some found taken.bytes (e ∙ ap bytes_taken f))

at_most : (terminal : Terminal) (lines : List (List ℕ)) (n : ℕ) (taken : Taken) → taking terminal lines n ≡ Some taken →
    length taken.bytes ≤ n
at_most terminal [] n taken e = cc
at_most terminal (first ∷ rest) n taken e =
    let bytes : List ℕ = taken.bytes in
    let is : bytes ≡ take n first = ap (λ (t : Taken). t.bytes) (sym (same_Some _ taken e)) in
    omega (arith, ap (λ (b : List ℕ). length b) is, length-take n first)

-- a read takes no more bytes than its count
pub read_most : (terminal : Terminal) (count : ℕ) (taken : Taken) → read_from terminal count ≡ Some taken →
    length taken.bytes ≤ count
read_most terminal count taken e =
    elim (nat_eq count 0) as (λ b. cond b (Some (record { terminal = terminal; bytes = [] })) (after_take terminal
    count) ≡ Some taken → length taken.bytes ≤ count) [
      | true ↦ λ none.
          let bytes : List ℕ = taken.bytes in
          let is : bytes ≡ [] = ap (λ (t : Taken). t.bytes) (sym (same_Some _ taken none)) in
          omega (arith, ap (λ (b : List ℕ). length b) is)
      | false ↦ λ some. at_most terminal terminal.done_lines count taken some
    ] e

room_by : (b : Bool) (c : Bool) → b ≡ true → (b && c) ≡ false → c ≡ false
room_by true c e f = f
room_by false c e f = cc

room_in : (size : ℕ) (a v : ℤ) (n : ℕ) → is_range_outside size a v ≡ false → n ≤ count_of v → 0 < n → address_of a + n ≤
    size
room_in size (pos a) (pos c) n inside most some =
    let any : nat_lt 0 c ≡ true = lt-ltb 0 c (omega arith) in
    let within : a + min c 64 ≤ size = ltb-false size (a + min c 64) (room_by (nat_lt 0 c) (nat_lt size (a + min c 64))
    any inside) in
    omega arith
room_in size (negsuc a) (pos c) n inside most some = absurd (true≢false (sym (lt-ltb 0 c (omega arith)) ∙ inside))
room_in size (pos a) (negsuc c) n inside most some = cc
room_in size (negsuc a) (negsuc c) n inside most some = cc

some_if : (b : Bool) (a d : ℕ × ℕ) → cond b (Some a) None ≡ Some d → a ≡ d
some_if true a d e = same_Some a d e
some_if false a d e = cc

-- a read has room for its bytes
pub HasRoom-read : (script : Script) (s : PosixState) (r : Record) (i : Instr) (a : ℕ × ℕ) (bytes : List ℕ) →
    IsCalling script r i → reading_of s r i ≡ Some a → length bytes ≤ a.1 → HasRoom a.0 bytes r
HasRoom-read script s r (instr.Read address count) a bytes c e most =
    let at = value_of r.image address in
    let v = value_of r.image count in
    let is : (address_of at, count_of v) ≡ a = some_if (is_allowed (read_check s r)) (address_of at, count_of v) a e in
    let fits : HasRoom (address_of at) bytes r = record {
      room = room_in (length r.image.heap) at v (length bytes) (next_call (code_of script r.image) r.image (instr.Read
          address count) c.next).carried_out (subst (λ (n : ℕ). length bytes ≤ n) (ap (λ (x : ℕ × ℕ). x.1) (sym is))
          most);
    } in
    subst (λ (n : ℕ). HasRoom n bytes r) (ap (λ (x : ℕ × ℕ). x.0) is) fits
HasRoom-read script s r _ a bytes c e most = cc
