-- Words of rows and their changes worked out: the fields at their ends, and what is no word.
use Rattle.std.specs.Prelude.{◌≡◌, ◌+◌, ◌-◌, ◌*◌, ◌^◌, true, false, Some, None}
use Rattle.std.proofs.Common.{refl}
use Rattle.layer_spec.specs.Rows.{Free, Held, Running, Stopped, Zombie, Gone, MainWord, main_word_of, group_word_of}
use Rattle.layer_spec.specs.Rows.{exit_word_of}
use Rattle.layer_spec.specs.Decoding.{main_of, group_of, exit_of}
use Rattle.layer_spec.specs.Transitions.{Post, blank, trans}

-- image 2 runs, also with TERM pending, is stopped by STOP and not reported, has exited with 7
abbrev pub runs : MainWord
runs = record (blank Running) { image = 2 }

abbrev pub is_stopped : MainWord
is_stopped = record (blank Stopped) { stop = 19; image = 2; report = 1 }

abbrev pub exited : MainWord
exited = record (blank Zombie) { status = 7; image = 2 }

running_word : main_word_of runs ≡ 2251804108652544
running_word = refl

posted_word : main_word_of (record runs { pending = 2 ^ 14 }) ≡ 2251804108668928
posted_word = refl

posted_gives_it : trans runs (Post 15) ≡ main_of 2251804108668928
posted_gives_it = refl

stopped_word : main_word_of is_stopped ≡ 1381479189990866944
stopped_word = refl

zombie_word : main_word_of exited ≡ 4503603922337799
zombie_word = refl

group_word : group_word_of (record { parent = 1; group = 2; session = 2; terminal = true }) ≡ 68753039361
group_word = refl

exit_word : exit_word_of (record { status = 7; image = 2; fault = false }) ≡ 1031
exit_word = refl

abbrev pub largest : MainWord
largest =
    record { kind = Stopped; stop = 22; report = 1; execd = true; image = 524287; pending = 2 ^ 31 - 1; status = 0 }

-- what words tell
free_row : main_of 0 ≡ Some (blank Free)
free_row = refl

held_row : main_of (2 ^ 50) ≡ Some (blank Held)
held_row = refl

gone_row : main_of (5 * 2 ^ 50) ≡ Some (blank Gone)
gone_row = refl

stopped_row : main_of 1381479189990866944 ≡ Some is_stopped
stopped_row = refl

largest_fields : main_of (main_word_of largest) ≡ Some largest
largest_fields = refl

largest_status : main_of (main_word_of (record exited { status = 511; execd = true }))
    ≡ Some (record exited { status = 511; execd = true })
largest_status = refl

empty_exit : exit_of 0 ≡ Some (record { status = 0; image = 0; fault = false })
empty_exit = refl

exit_by_fault : exit_of (267 + 524287 * 2 ^ 9 + 2 ^ 28) ≡ Some (record { status = 267; image = 524287; fault = true })
exit_by_fault = refl

largest_group : group_of (2 ^ 37 - 1) ≡ Some (record { parent = 4095; group = 4095; session = 4095; terminal = true })
largest_group = refl

-- what is no main word: a free, a held or a gone row with another field
free_with_signal : main_of 1 ≡ None
free_with_signal = refl

held_with_image : main_of (2 ^ 50 + 2 ^ 31) ≡ None
held_with_image = refl

gone_with_execd : main_of (5 * 2 ^ 50 + 2 ^ 55) ≡ None
gone_with_execd = refl

-- kinds that there aren't, and the bits above the fields
kind_six : main_of (6 * 2 ^ 50) ≡ None
kind_six = refl

kind_seven : main_of (7 * 2 ^ 50) ≡ None
kind_seven = refl

bit_61 : main_of (2251804108652544 + 2 ^ 61) ≡ None
bit_61 = refl

bit_63 : main_of (2251804108652544 + 2 ^ 63) ≡ None
bit_63 = refl

-- a running row with a stop to report or with a stop signal, a stopped one with a continue to report or by another
-- signal
running_report : main_of (2251804108652544 + 2 ^ 53) ≡ None
running_report = refl

running_report_3 : main_of (2251804108652544 + 3 * 2 ^ 53) ≡ None
running_report_3 = refl

running_stop : main_of (2251804108652544 + 19 * 2 ^ 56) ≡ None
running_stop = refl

stopped_report : main_of (1381479189990866944 + 2 ^ 53) ≡ None
stopped_report = refl

stopped_by_18 : main_of (1381479189990866944 - 2 ^ 56) ≡ None
stopped_by_18 = refl

stopped_by_23 : main_of (1381479189990866944 + 4 * 2 ^ 56) ≡ None
stopped_by_23 = refl

-- a zombie with a report, with a stop signal, with a bit above the status
zombie_report : main_of (4503603922337799 + 2 ^ 53) ≡ None
zombie_report = refl

zombie_stop : main_of (4503603922337799 + 19 * 2 ^ 56) ≡ None
zombie_stop = refl

zombie_bit_9 : main_of (4503603922337799 + 2 ^ 9) ≡ None
zombie_bit_9 = refl

-- what is no other word
exit_bit_29 : exit_of (1031 + 2 ^ 29) ≡ None
exit_bit_29 = refl

fault_with_266 : exit_of (266 + 2 * 2 ^ 9 + 2 ^ 28) ≡ None
fault_with_266 = refl

group_bit_37 : group_of (2 ^ 37) ≡ None
group_bit_37 = refl
