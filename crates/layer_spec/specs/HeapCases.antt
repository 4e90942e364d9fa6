-- Cygheaps worked out: where bytes break the layout, and what they tell.
use Rattle.std.specs.Prelude.{◌≡◌, ℕ, ◌^◌, true, List, [], ◌∷◌, ◌++◌, replicate, slice_set, Some, None}
use Rattle.std.proofs.Common.{refl}
use Rattle.w32_base.specs.declared.instr.Action.TheVariants.{Default, Handler}
use Rattle.vm_spec.specs.Image.{word_at}
use Rattle.layer_spec.specs.Heap.{HeapFields, heap_bytes, for_child, for_exec}
use Rattle.layer_spec.specs.HeapReads.{half_at, heap_in}
use Rattle.layer_spec.specs.HeapBreaks.{first_misfit, first_break}

-- version 1 and zeros else
abbrev pub empty_heap : List ℕ
empty_heap = 1 ∷ replicate 287 0

-- it with another byte at a place
abbrev pub with_byte : ℕ → ℕ → List ℕ
with_byte place b = slice_set empty_heap place b

-- with another at a second place
abbrev pub with_bytes : (place b other c : ℕ) → List ℕ
with_bytes place b other c = slice_set (with_byte place b) other c

too_short : first_break (replicate 287 0) ≡ Some 288
too_short = refl

too_long : first_break (1 ∷ replicate 288 0) ≡ Some 288
too_long = refl

no_version : first_break (replicate 288 0) ≡ Some 0
unfolding first_misfit
no_version = refl

empty_is_heap : first_break empty_heap ≡ None
unfolding first_misfit
empty_is_heap = refl

version_257 : first_break (with_byte 1 1) ≡ Some 1
unfolding first_misfit
version_257 = refl

flag_bit_1 : first_break (with_byte 2 2) ≡ Some 2
unfolding first_misfit
flag_bit_1 = refl

kill_in_mask : first_break (with_byte 5 1) ≡ Some 5
unfolding first_misfit
kill_in_mask = refl

stop_in_mask : first_break (with_byte 6 4) ≡ Some 6
unfolding first_misfit
stop_in_mask = refl

bit_31_in_mask : first_break (with_byte 7 128) ≡ Some 7
unfolding first_misfit
bit_31_in_mask = refl

saved_outside_suspend : first_break (with_byte 8 1) ≡ Some 8
unfolding first_misfit
saved_outside_suspend = refl

saved_in_suspend : first_break (with_bytes 2 1 8 1) ≡ None
unfolding first_misfit
saved_in_suspend = refl

kill_in_saved : first_break (with_bytes 2 1 9 1) ≡ Some 9
unfolding first_misfit
kill_in_saved = refl

most_owed : first_break (with_bytes 12 255 13 255) ≡ None
unfolding first_misfit
most_owed = refl

too_much_owed : first_break (with_byte 14 1) ≡ Some 14
unfolding first_misfit
too_much_owed = refl

-- actions: of INT at 20, of KILL at 48, of STOP at 88
ignored_int : first_break (with_byte 20 1) ≡ None
unfolding first_misfit
ignored_int = refl

ignored_kill : first_break (with_byte 48 1) ≡ Some 48
unfolding first_misfit
ignored_kill = refl

handled_stop : first_break (with_byte 88 2) ≡ Some 88
unfolding first_misfit
handled_stop = refl

kind_3 : first_break (with_byte 20 3) ≡ Some 20
unfolding first_misfit
kind_3 = refl

restart_of_ignored : first_break (with_bytes 20 1 21 1) ≡ Some 21
unfolding first_misfit
restart_of_ignored = refl

restart_2 : first_break (with_bytes 20 2 21 2) ≡ Some 21
unfolding first_misfit
restart_2 = refl

place_of_ignored : first_break (with_bytes 20 1 23 1) ≡ Some 23
unfolding first_misfit
place_of_ignored = refl

-- bases: 1023 is one, 1024 isn't
last_base : first_break (with_bytes 140 255 141 3) ≡ None
unfolding first_misfit
last_base = refl

base_1024 : first_break (with_byte 155 4) ≡ Some 155
unfolding first_misfit
base_1024 = refl

-- children: at most 32, numbers 2 to 4001, bit 0 alone of the flags, zeros past them
too_many_children : first_break (with_byte 156 33) ≡ Some 156
unfolding first_misfit
too_many_children = refl

child_0 : first_break (with_byte 156 1) ≡ Some 161
unfolding first_misfit
child_0 = refl

child_2 : first_break (with_bytes 156 1 160 2) ≡ None
unfolding first_misfit
child_2 = refl

child_4001 : first_break (slice_set (with_bytes 156 1 160 161) 161 15) ≡ None
unfolding first_misfit
child_4001 = refl

child_4002 : first_break (slice_set (with_bytes 156 1 160 162) 161 15) ≡ Some 161
unfolding first_misfit
child_4002 = refl

child_flag_bit_1 : first_break (slice_set (with_bytes 156 1 160 2) 162 2) ≡ Some 162
unfolding first_misfit
child_flag_bit_1 = refl

child_past_the_last : first_break (with_byte 160 2) ≡ Some 160
unfolding first_misfit
child_past_the_last = refl

-- in `suspend`, with USR1 blocked before; two CHLD owed; a handler of INT at 300 that restarts; child 3, whose death is
-- noted
abbrev pub some_heap : HeapFields
some_heap = record {
  mask = 2;
  saved = Some (2 ^ 9);
  owed = 2;
  actions = Default ∷ Handler 300 true ∷ replicate 29 Default;
  bases = 10 ∷ 1023 ∷ replicate 6 0;
  children = record { number = 3; noted = true } ∷ [];
}

some_bytes : List ℕ
some_bytes = 1 ∷ 0 ∷ 1 ∷ 0 ∷ 2 ∷ 0 ∷ 0 ∷ 0 ∷ 0 ∷ 2 ∷ 0 ∷ 0 ∷ 2 ∷ 0 ∷ 0 ∷ 0
    ∷ 0 ∷ 0 ∷ 0 ∷ 0 ∷ 2 ∷ 1 ∷ 44 ∷ 1 ∷ replicate 116 0
    ++ (10 ∷ 0 ∷ 255 ∷ 3 ∷ replicate 12 0) ++ (1 ∷ 0 ∷ 0 ∷ 0 ∷ 3 ∷ 0 ∷ 1 ∷ 0 ∷ replicate 124 0)

some_layout : heap_bytes some_heap ≡ some_bytes
unfolding heap_bytes some_bytes
some_layout = refl

some_read_back : heap_in some_bytes ≡ some_heap
unfolding word_at half_at some_bytes
some_read_back = refl

some_is_heap : first_break some_bytes ≡ None
unfolding first_misfit some_bytes
some_is_heap = refl

some_for_child : for_child some_heap ≡ record some_heap { owed = 0; children = [] }
some_for_child = refl

some_for_exec : for_exec some_heap ≡ record some_heap { actions = replicate 31 Default; bases = replicate 8 0 }
some_for_exec = refl
