-- The own line of a program.
use Rattle.std.specs.Prelude.{ℕ, Bool, ◌&&◌, nat_le, List, [], ◌∷◌, codes}
use Rattle.std.specs.Fmt.{decimal}
use Rattle.w32_base.specs.Name.{is_name}
use Rattle.script_spec.specs.Validity.{is_within}
use Rattle.cyg_script.specs.declared.heading.Heading.{Heading}

-- its words
abbrev pub heading_words : Heading → List (List ℕ)
heading_words h = codes "program" ∷ h.name ∷ codes "heap" ∷ decimal h.heap ∷ codes "stack" ∷ decimal h.stack ∷ []

-- its name is one, and its numbers are in their ranges
abbrev pub is_valid_heading : Heading → Bool
is_valid_heading h = is_name h.name && nat_le h.heap 32768 && is_within 64 32768 h.stack
