-- What a word of the section tells the parts of its row.
use Rattle.std.specs.Prelude.{ℕ, Bool, false, Option, Some, None}
use Rattle.std.specs.Option.{option_map}
use Rattle.layer_spec.specs.Rows.{MainWord, main_word_of, is_process_kind, is_live_kind}
use Rattle.layer_spec.specs.Decoding.{main_of}
use Rattle.layer_spec.specs.Transitions.{Op, trans}

abbrev pub is_process_main : Option MainWord → Bool
is_process_main None = false
is_process_main (Some m) = is_process_kind m.kind

abbrev pub is_live_main : Option MainWord → Bool
is_live_main None = false
is_live_main (Some m) = is_live_kind m.kind

-- Whether the row of a main word is a process, and whether it is one that isn't a zombie. A word that no row has is
-- that of no process.
abbrev pub is_process_word : ℕ → Bool
is_process_word w = is_process_main (main_of w)

abbrev pub is_live_word : ℕ → Bool
is_live_word w = is_live_main (main_of w)

-- the main word that comes of one by a change, where the row changes so
abbrev pub changed_main : Option MainWord → Op → Option ℕ
changed_main None op = None
changed_main (Some m) op = option_map main_word_of (trans m op)

abbrev pub changed_word : Op → ℕ → Option ℕ
changed_word op w = changed_main (main_of w) op
