-- What a terminal keeps to: the sizes of its lines, and the ranges of its bytes and flags. Keys and reads keep it so.
use Rattle.std.specs.Prelude.{◌≡◌, ℕ, ◌+◌, ◌≤◌, ◌<◌, Bool, true, false, ◌&&◌, nat_eq, nat_le, nat_lt, if◌then◌else◌}
use Rattle.std.specs.Prelude.{List, [], ◌∷◌, ◌++◌, length, take, drop, Option, Some, None, IfSome}
use Rattle.std.specs.List.{list_all}
use Rattle.std.proofs.Common.{arith, refl, sym, ◌∙◌, ap, length-append, length-take, length-drop}
use Rattle.std.proofs.lemmas.Bool.{leb-true, ltb-true}
use Rattle.std.proofs.lemmas.Bool.Decides.{nat_tests}
use Rattle.std.proofs.lemmas.List.{take-append-drop}
use Rattle.std.proofs.lemmas.List.Folds.{list_all-append}
use Rattle.tty_spec.specs.Terminal.{Terminal, opening_terminal}
use Rattle.tty_spec.specs.Discipline.{KeyTaken, has_flag, noflsh_flag, isig_flag, signal_of_key, signalling, erasing}
use Rattle.tty_spec.specs.Discipline.{killing, ending, adding, editing, keying, left_before, taking, after_key}
use Rattle.tty_spec.specs.Discipline.{after_take}

abbrev pub is_byte : ℕ → Bool
is_byte byte = nat_lt byte 256

-- a done line: at most 254 bytes, and the one that ended it
abbrev pub is_done_line : List ℕ → Bool
is_done_line bytes = nat_le (length bytes) 255 && list_all is_byte bytes

pub record IsTerminal (terminal : Terminal) : Type 0 where
  pub flags : terminal.flags < 16
  pub line_size : length terminal.line ≤ 254
  pub line_bytes : list_all is_byte terminal.line ≡ true
  pub done_count : length terminal.done_lines ≤ 16
  pub done_lines : list_all is_done_line terminal.done_lines ≡ true

-- what holds of both answers of a test holds of the one that is given
either : {X : Type 0} (P : X → Type 0) (test : Bool) (x y : X) → (test ≡ true → P x) → (test ≡ false → P y)
    → P (if test then x else y)
either P true x y here there = here refl
either P false x y here there = there refl

-- two tests that hold together
both : (a b : Bool) → a ≡ true → b ≡ true → (a && b) ≡ true
both true b _ q = q
both false b p _ = p

first_of_both : (a b : Bool) → (a && b) ≡ true → a ≡ true
first_of_both true b _ = refl
first_of_both false b p = p

second_of_both : (a b : Bool) → (a && b) ≡ true → b ≡ true
second_of_both true b p = p
second_of_both false b p = absurd (grind arith)

at_most : (n m : ℕ) → n ≤ m → nat_le n m ≡ true
at_most n m h = grind (arith, nat_tests)

joined : {X : Type 0} (p : X → Bool) (xs ys : List X) → list_all p xs ≡ true → list_all p ys ≡ true
    → list_all p (xs ++ ys) ≡ true
joined p xs ys h k = list_all-append p xs ys ∙ both (list_all p xs) (list_all p ys) h k

parted : {X : Type 0} (p : X → Bool) (xs : List X) (n : ℕ) → list_all p xs ≡ true
    → (list_all p (take n xs) && list_all p (drop n xs)) ≡ true
parted p xs n h = sym (list_all-append p (take n xs) (drop n xs)) ∙ (ap (list_all p) (take-append-drop n xs) ∙ h)

front_keeps : {X : Type 0} (p : X → Bool) (xs : List X) (n : ℕ) → list_all p xs ≡ true → list_all p (take n xs) ≡ true
front_keeps p xs n h = first_of_both (list_all p (take n xs)) (list_all p (drop n xs)) (parted p xs n h)

back_keeps : {X : Type 0} (p : X → Bool) (xs : List X) (n : ℕ) → list_all p xs ≡ true → list_all p (drop n xs) ≡ true
back_keeps p xs n h = second_of_both (list_all p (take n xs)) (list_all p (drop n xs)) (parted p xs n h)

pub opening_is_terminal : IsTerminal opening_terminal
opening_is_terminal = record {
  flags = omega arith;
  line_size = omega arith;
  line_bytes = refl;
  done_count = omega arith;
  done_lines = refl;
}

abbrev Keeps : KeyTaken → Type 0
Keeps key = IsTerminal key.terminal

killing_keeps : (terminal : Terminal) → IsTerminal terminal → Keeps (killing terminal)
killing_keeps terminal h = record {
  flags = h.flags;
  line_size = omega arith;
  line_bytes = refl;
  done_count = h.done_count;
  done_lines = h.done_lines;
}

signalling_keeps : (terminal : Terminal) (signal : ℕ) → IsTerminal terminal → Keeps (signalling terminal signal)
signalling_keeps terminal signal h =
    either IsTerminal (has_flag terminal noflsh_flag) _ _
    (λ _. h)
    (λ _. record {
      flags = h.flags;
      line_size = omega arith;
      line_bytes = refl;
      done_count = omega arith;
      done_lines = refl;
    })

erasing_keeps : (terminal : Terminal) (line : List ℕ) → terminal.line ≡ line → IsTerminal terminal
    → Keeps (erasing terminal line)
erasing_keeps terminal [] is h = h
erasing_keeps terminal (first ∷ rest) is h = record {
  flags = h.flags;
  line_size = omega (arith, length-take (length rest) (first ∷ rest), ap length is);
  line_bytes = front_keeps is_byte (first ∷ rest) (length rest) (ap (list_all is_byte) (sym is) ∙ h.line_bytes);
  done_count = h.done_count;
  done_lines = h.done_lines;
}

adding_keeps : (terminal : Terminal) (byte : ℕ) → byte < 256 → IsTerminal terminal → Keeps (adding terminal byte)
adding_keeps terminal byte b h =
    either Keeps (nat_lt (length terminal.line) 254) _ _
    (λ fits. record {
      flags = h.flags;
      line_size = omega (arith, length-append terminal.line (byte ∷ []), ltb-true (length terminal.line) 254 fits);
      line_bytes = joined is_byte terminal.line (byte ∷ []) h.line_bytes (grind (arith, nat_tests));
      done_count = h.done_count;
      done_lines = h.done_lines;
    })
    (λ _. h)

done_line : (line bytes : List ℕ) → length line ≤ 254 → length bytes ≤ 1 → list_all is_byte line ≡ true
    → list_all is_byte bytes ≡ true → is_done_line (line ++ bytes) ≡ true
done_line line bytes small few h k =
    both (nat_le (length (line ++ bytes)) 255) (list_all is_byte (line ++ bytes))
    (at_most (length (line ++ bytes)) 255 (omega (arith, length-append line bytes)))
    (joined is_byte line bytes h k)

ending_keeps : (terminal : Terminal) (bytes : List ℕ) → length bytes ≤ 1 → list_all is_byte bytes ≡ true
    → IsTerminal terminal → Keeps (ending terminal bytes)
ending_keeps terminal bytes few within h =
    either Keeps (nat_lt (length terminal.done_lines) 16) _ _
    (λ fits. record {
      flags = h.flags;
      line_size = omega arith;
      line_bytes = refl;
      done_count = omega (
        arith,
        length-append terminal.done_lines ((terminal.line ++ bytes) ∷ []),
        ltb-true (length terminal.done_lines) 16 fits,
      );
      done_lines = joined is_done_line terminal.done_lines ((terminal.line ++ bytes) ∷ []) h.done_lines
          (both
          (is_done_line (terminal.line ++ bytes))
          true
          (done_line terminal.line bytes h.line_size few h.line_bytes within)
          refl);
    })
    (λ _. h)

editing_keeps : (terminal : Terminal) (byte : ℕ) → byte < 256 → IsTerminal terminal → Keeps (editing terminal byte)
editing_keeps terminal byte b h =
    either Keeps (nat_eq byte 127) _ _ (λ _. erasing_keeps terminal terminal.line refl h) (λ _.
    either Keeps (nat_eq byte 21) _ _ (λ _. killing_keeps terminal h) (λ _.
    either Keeps (nat_eq byte 4) _ _ (λ _. ending_keeps terminal [] (omega arith) refl h) (λ _.
    either Keeps (nat_eq byte 10) _ _ (λ _. ending_keeps terminal (10 ∷ []) (omega arith) refl h) (λ _.
    adding_keeps terminal byte b h))))

keying_keeps : (signal : Option ℕ) (terminal : Terminal) (byte : ℕ) → byte < 256 → IsTerminal terminal
    → Keeps (keying signal terminal byte)
keying_keeps (Some signal) terminal byte b h = signalling_keeps terminal signal h
keying_keeps None terminal byte b h = editing_keeps terminal byte b h

-- a key keeps it so
pub after_key_keeps : (terminal : Terminal) (byte : ℕ) → byte < 256 → IsTerminal terminal
    → IsTerminal (after_key terminal byte).terminal
after_key_keeps terminal byte b h =
    keying_keeps (if has_flag terminal isig_flag then signal_of_key byte else None) terminal byte b h

left_count : (bytes : List ℕ) (lines : List (List ℕ)) → length (left_before bytes lines) ≤ length lines + 1
left_count [] lines = omega arith
left_count (byte ∷ rest) lines = omega arith

left_keeps : (bytes : List ℕ) (lines : List (List ℕ)) → is_done_line bytes ≡ true → list_all is_done_line lines ≡ true
    → list_all is_done_line (left_before bytes lines) ≡ true
left_keeps [] lines h k = k
left_keeps (byte ∷ rest) lines h k = both (is_done_line (byte ∷ rest)) (list_all is_done_line lines) h k

-- what is left of a done line is one
back_is_done : (line : List ℕ) (n : ℕ) → is_done_line line ≡ true → is_done_line (drop n line) ≡ true
back_is_done line n h =
    both (nat_le (length (drop n line)) 255) (list_all is_byte (drop n line))
    (at_most (length (drop n line)) 255 (omega (
      arith,
      length-drop n line,
      leb-true (length line) 255 (first_of_both (nat_le (length line) 255) (list_all is_byte line) h),
    )))
    (back_keeps is_byte line n (second_of_both (nat_le (length line) 255) (list_all is_byte line) h))

taking_keeps : (terminal : Terminal) (lines : List (List ℕ)) (n : ℕ) → terminal.done_lines ≡ lines
    → IsTerminal terminal → IfSome (taking terminal lines n) (λ taken. IsTerminal taken.terminal)
taking_keeps terminal [] n is h = tt
taking_keeps terminal (first ∷ rest) n is h =
    let all : (is_done_line first && list_all is_done_line rest) ≡ true =
    ap (list_all is_done_line) (sym is) ∙ h.done_lines in
    record {
      flags = h.flags;
      line_size = h.line_size;
      line_bytes = h.line_bytes;
      done_count = omega (arith, ap length is, left_count (drop n first) rest);
      done_lines = left_keeps (drop n first) rest
          (back_is_done first n (first_of_both (is_done_line first) (list_all is_done_line rest) all))
          (second_of_both (is_done_line first) (list_all is_done_line rest) all);
    }

-- a read keeps it so
pub after_take_keeps : (terminal : Terminal) (n : ℕ) → IsTerminal terminal
    → IfSome (after_take terminal n) (λ taken. IsTerminal taken.terminal)
after_take_keeps terminal n h = taking_keeps terminal terminal.done_lines n refl h
