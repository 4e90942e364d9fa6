-- Whether a group is orphaned: the parent of each member is dead, or in the group, or in another session. The holder of
-- the roster mutex looks through the members. Of a member's parent it looks at the group word first and at the main
-- word last, since a death doesn't need the mutex: a parent that it finds alive is alive at that very step.
use Rattle.std.specs.Prelude.{ℕ, ◌+◌, ◌*◌, Bool, true, false, ◌&&◌, not, nat_eq, nat_le, if◌then◌else◌, Option, Some}
use Rattle.std.specs.Prelude.{None}
use Rattle.w32_base.specs.declared.call.Call.{Call}
use Rattle.w32_base.specs.declared.call.Call.TheVariants as call
use Rattle.w32_base.specs.declared.call.Reply.{Reply}
use Rattle.layer_spec.specs.Rows.{GroupWord, main_place, group_place}
use Rattle.layer_spec.specs.Decoding.{group_of}
use Rattle.layer_spec.specs.Words.{row_of}
use Rattle.roster.specs.declared.scan.Scan.{Scan}
use Rattle.roster.specs.declared.scan.Scan.TheVariants as scan
use Rattle.roster.specs.declared.orphaned.Member.{Member}
use Rattle.roster.specs.declared.orphaned.Orphaned.{Orphaned}
use Rattle.roster.specs.declared.orphaned.Orphaned.TheVariants as orphaned
use Rattle.roster.specs.Turns.{section_handle, rest_call, by_word}
use Rattle.roster.specs.Words.{is_live_word}
use Rattle.roster.specs.Scan.{scan_posted, scan_next, scan_after, scan_rank}

-- the numbers that a process can have: 1 is nobody's
abbrev pub is_process_number : ℕ → Bool
is_process_number p = nat_le 2 p && nat_le p 4001

-- whether what a group word tells is outside a group and in its session; what no row has is in no session
abbrev pub is_outside : (group session : ℕ) → Option GroupWord → Bool
is_outside group session None = false
is_outside group session (Some g) = not (nat_eq g.group group) && nat_eq g.session session

-- the call that each step posts
abbrev pub orphaned_posted : Orphaned → Call
orphaned_posted (orphaned.Scanning group x) = scan_posted x
orphaned_posted (orphaned.Grouping m) = call.Load section_handle (group_place m.parent)
orphaned_posted (orphaned.Looking m) = call.Load section_handle (main_place m.parent)
orphaned_posted (orphaned.Answered is_orphaned) = rest_call
orphaned_posted orphaned.Rest = rest_call

-- the look goes on through these rows; past the last one no live parent outside was found
abbrev pub orphaned_on : (group : ℕ) → Scan → Orphaned
orphaned_on group scan.Past = orphaned.Answered true
orphaned_on group x = orphaned.Scanning group x

-- with a process that was found: where it is a member and has a parent, that one's row is next
abbrev pub orphaned_found : (group : ℕ) → Option GroupWord → Scan → Orphaned
orphaned_found group None rest = orphaned_on group rest
orphaned_found group (Some g) rest =
    if nat_eq g.group group && is_process_number g.parent
    then orphaned.Grouping (record { group = group; session = g.session; parent = row_of g.parent; rest = rest })
    else orphaned_on group rest

abbrev pub orphaned_scanned : (group : ℕ) → Scan → Orphaned
orphaned_scanned group (scan.Found row last w) =
    orphaned_found group (group_of w) (scan_next (scan.Found row last w))
orphaned_scanned group x = orphaned_on group x

-- with the group word of a member's parent, and with its main word
abbrev pub orphaned_grouped : Member → ℕ → Orphaned
orphaned_grouped m w =
    if is_outside m.group m.session (group_of w) then orphaned.Looking m else orphaned_on m.group m.rest

abbrev pub orphaned_looked : Member → ℕ → Orphaned
orphaned_looked m w = if is_live_word w then orphaned.Answered false else orphaned_on m.group m.rest

-- where each step goes with a reply
abbrev pub orphaned_after : Orphaned → Reply → Orphaned
orphaned_after (orphaned.Scanning group x) r = orphaned_scanned group (scan_after x r)
orphaned_after (orphaned.Grouping m) r = by_word orphaned.Rest (orphaned_grouped m) r
orphaned_after (orphaned.Looking m) r = by_word orphaned.Rest (orphaned_looked m) r
orphaned_after (orphaned.Answered is_orphaned) r = orphaned.Answered is_orphaned
orphaned_after orphaned.Rest r = orphaned.Rest

-- how many turns are left at most: four for each row
abbrev pub orphaned_rank : Orphaned → ℕ
orphaned_rank (orphaned.Scanning group x) = 4 * scan_rank x + 1
orphaned_rank (orphaned.Grouping m) = 4 * scan_rank m.rest + 3
orphaned_rank (orphaned.Looking m) = 4 * scan_rank m.rest + 2
orphaned_rank (orphaned.Answered is_orphaned) = 0
orphaned_rank orphaned.Rest = 1

-- whether the group is orphaned
abbrev pub orphaned_answer : Orphaned → Option Bool
orphaned_answer (orphaned.Answered is_orphaned) = Some is_orphaned
orphaned_answer (orphaned.Scanning group x) = None
orphaned_answer (orphaned.Grouping m) = None
orphaned_answer (orphaned.Looking m) = None
orphaned_answer orphaned.Rest = None
