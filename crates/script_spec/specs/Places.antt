-- Where a line may stand. The lines before it that aren't skipped are given as their words, the last of them first.
use Rattle.std.specs.Prelude.{ℕ, suc, Bool, true, false, nat_eq, nat_le, List, [], ◌∷◌, Option, Some, None}
use Rattle.std.specs.Prelude.{if◌then◌else◌}
use Rattle.script_spec.specs.declared.fault.Kind.{Kind}
use Rattle.script_spec.specs.declared.fault.Kind.TheVariants.{NoHeader, Missing, Unknown}
use Rattle.script_spec.specs.declared.fault.Sort.{Sort}
use Rattle.script_spec.specs.declared.fault.Sort.TheVariants as sort
use Rattle.script_spec.specs.Numbers.{value_of}
use Rattle.script_spec.specs.FirstWords.{sort_of_words}

-- the place of a sort in the order of lines
abbrev pub sort_number : Sort → ℕ
sort_number sort.Header = 1
sort_number sort.Slots = 2
sort_number sort.Rows = 3
sort_number sort.Budget = 4
sort_number sort.Module = 5
sort_number sort.Occupy = 6
sort_number sort.Program = 7
sort_number sort.Instruction = 8
sort_number sort.Schedule = 9
sort_number sort.Directive = 10

abbrev pub is_sort : Sort → Sort → Bool
is_sort a b = nat_eq (sort_number a) (sort_number b)

abbrev pub is_one_of : List Sort → Sort → Bool
is_one_of [] s = false
is_one_of (t ∷ ts) s = if is_sort t s then true else is_one_of ts s

-- the sorts of line that may stand straight after a line of this sort
abbrev pub followers : Sort → List Sort
followers sort.Header = sort.Slots ∷ []
followers sort.Slots = sort.Rows ∷ []
followers sort.Rows = sort.Budget ∷ []
followers sort.Budget = sort.Module ∷ sort.Occupy ∷ sort.Program ∷ []
followers sort.Module = sort.Module ∷ sort.Occupy ∷ sort.Program ∷ []
followers sort.Occupy = sort.Occupy ∷ sort.Program ∷ []
followers sort.Program = sort.Instruction ∷ []
followers sort.Instruction = sort.Instruction ∷ sort.Program ∷ sort.Schedule ∷ []
followers sort.Schedule = sort.Directive ∷ []
followers sort.Directive = sort.Directive ∷ []

-- After a line of this sort, a line of an earlier sort than this one comes too late.
abbrev pub earliest : Sort → Sort
earliest sort.Header = sort.Slots
earliest sort.Slots = sort.Rows
earliest sort.Rows = sort.Budget
earliest sort.Budget = sort.Module
earliest sort.Module = sort.Module
earliest sort.Occupy = sort.Occupy
earliest sort.Program = sort.Program
earliest sort.Instruction = sort.Program
earliest sort.Schedule = sort.Directive
earliest sort.Directive = sort.Directive

-- A line that may not stand straight after another one comes too late, or a line that it needs is absent before it.
abbrev pub place_fault : Sort → Sort → Option Kind
place_fault last this = if is_one_of (followers last) this then None
    else (if nat_le (sort_number (earliest last)) (sort_number this) then Some Missing else Some Unknown)

-- At the end of the text the last line has to be one of the schedule.
abbrev pub end_sort_fault : Option Sort → Option Kind
end_sort_fault None = Some Missing
end_sort_fault (Some sort.Directive) = None
end_sort_fault (Some _) = Some Missing

abbrev pub end_fault : List (List (List ℕ)) → Option Kind
end_fault [] = Some NoHeader
end_fault (ws ∷ before) = end_sort_fault (sort_of_words ws)

-- the second word of a line
abbrev pub second : List (List ℕ) → List ℕ
second [] = []
second (w ∷ []) = []
second (w ∷ v ∷ ws) = v

abbrev pub has_sort : Sort → Option Sort → Bool
has_sort s None = false
has_sort s (Some t) = is_sort s t

-- how many of the lines before are of a sort
abbrev pub count_of : Sort → List (List (List ℕ)) → ℕ
count_of s [] = 0
count_of s (ws ∷ before) = if has_sort s (sort_of_words ws) then suc (count_of s before) else count_of s before

-- how many instructions stand straight before, without another line between
abbrev pub instructions_before : List (List (List ℕ)) → ℕ
instructions_before [] = 0
instructions_before (ws ∷ before) =
    if has_sort sort.Instruction (sort_of_words ws) then suc (instructions_before before) else 0

-- the second words of the lines of a sort: the names of the modules or programs before
abbrev pub names_of : Sort → List (List (List ℕ)) → List (List ℕ)
names_of s [] = []
names_of s (ws ∷ before) = if has_sort s (sort_of_words ws) then second ws ∷ names_of s before else names_of s before

-- the script's number of slots
abbrev pub slots_of : List (List (List ℕ)) → ℕ
slots_of [] = 0
slots_of (ws ∷ before) = if has_sort sort.Slots (sort_of_words ws) then value_of (second ws) else slots_of before
