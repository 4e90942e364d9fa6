-- What a word tells: the fields that stand in its bits, where these may stand together and make up the whole word.
use Rattle.std.specs.Prelude.{ℕ, ◌/◌, ◌%◌, ◌^◌, ◌&&◌, nat_eq, if◌then◌else◌, Option, Some, None}
use Rattle.layer_spec.specs.Rows.{RowKind, Free, Held, Running, Stopped, Zombie, Gone, kind_from, MainWord, GroupWord}
use Rattle.layer_spec.specs.Rows.{ExitWord, main_word_of, group_word_of, exit_word_of, is_main, is_group, is_exit}

-- the field of so many bits from a place on
abbrev pub field : ℕ → ℕ → ℕ → ℕ
field w place width = w / 2 ^ place % 2 ^ width

-- the image that a main word names
abbrev pub main_image : ℕ → ℕ
main_image w = field w 31 19

-- the low bits are the status in a zombie, and the pending signals in every other row
abbrev pub pending_in : RowKind → ℕ → ℕ
pending_in Free low = low
pending_in Held low = low
pending_in Running low = low
pending_in Stopped low = low
pending_in Zombie low = 0
pending_in Gone low = low

abbrev pub status_in : RowKind → ℕ → ℕ
status_in Free low = 0
status_in Held low = 0
status_in Running low = 0
status_in Stopped low = 0
status_in Zombie low = low
status_in Gone low = 0

-- the fields of a main word of this kind
abbrev pub main_fields : RowKind → ℕ → MainWord
main_fields kind w = record {
  kind = kind;
  stop = field w 56 5;
  report = field w 53 2;
  execd = nat_eq (field w 55 1) 1;
  image = main_image w;
  pending = pending_in kind (field w 0 31);
  status = status_in kind (field w 0 31);
}

abbrev pub group_fields : ℕ → GroupWord
group_fields w = record {
  parent = field w 0 12;
  group = field w 12 12;
  session = field w 24 12;
  terminal = nat_eq (field w 36 1) 1;
}

abbrev pub exit_fields : ℕ → ExitWord
exit_fields w = record { status = field w 0 9; image = field w 9 19; fault = nat_eq (field w 28 1) 1 }

-- the record, where it is one that a word may have and the word has no bits beside it
abbrev pub if_main : ℕ → MainWord → Option MainWord
if_main w m = if is_main m && nat_eq (main_word_of m) w then Some m else None

abbrev pub if_group : ℕ → GroupWord → Option GroupWord
if_group w g = if is_group g && nat_eq (group_word_of g) w then Some g else None

abbrev pub if_exit : ℕ → ExitWord → Option ExitWord
if_exit w e = if is_exit e && nat_eq (exit_word_of e) w then Some e else None

abbrev pub main_by_kind : ℕ → Option RowKind → Option MainWord
main_by_kind w None = None
main_by_kind w (Some kind) = if_main w (main_fields kind w)

-- what the words tell; none where a word isn't that of a record that may stand there
abbrev pub main_of : ℕ → Option MainWord
main_of w = main_by_kind w (kind_from (field w 50 3))

abbrev pub group_of : ℕ → Option GroupWord
group_of w = if_group w (group_fields w)

abbrev pub exit_of : ℕ → Option ExitWord
exit_of w = if_exit w (exit_fields w)
