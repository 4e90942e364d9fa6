-- Where the modules of a process go, and the call `module`.
use Rattle.std.specs.Prelude.{◌≡◌, ℕ, ◌+◌, ◌-◌, Bool, false, ◌&&◌, ◌||◌, nat_eq, nat_le, nat_lt, if◌then◌else◌, List}
use Rattle.std.specs.Prelude.{[], ◌∷◌, ◌++◌, map, Option, Some, None, slice_get, MatchOption}
use Rattle.std.specs.List.{range_with_len}
use Rattle.w32_base.specs.declared.call.Reply.{Reply}
use Rattle.w32_base.specs.declared.call.Reply.TheVariants as reply
use Rattle.w32_base.specs.declared.setup.Module.{Module}
use Rattle.script_spec.specs.declared.script.OccupiedPage.{OccupiedPage}
use Rattle.script_spec.specs.declared.script.Script.{Script}
use Rattle.win32_spec.specs.Regions.{IsPlaceFor}
use Rattle.win32_spec.specs.State.{PlacedModule, Process, Win32State}
use Rattle.win32_spec.specs.Lookup.{process_of, with_process}
use Rattle.win32_spec.specs.Named.{Gives}
use Rattle.win32_spec.specs.MemoryCalls.{program_no_by}

-- whether the script occupies the page in the layer process that is made as the creation-th one
abbrev pub is_occupied : List OccupiedPage → ℕ → ℕ → Bool
is_occupied [] creation page = false
is_occupied (o ∷ os) creation page = (nat_eq o.creation creation && nat_eq o.page page) || is_occupied os creation page

-- how many pages a module of the script has
abbrev pub pages_of : Option Module → ℕ
pages_of None = 0
pages_of (Some wanted) = wanted.size

-- whether one of the placed modules has the page
abbrev pub is_in_module : List Module → List PlacedModule → ℕ → Bool
is_in_module modules [] page = false
is_in_module modules (m ∷ ms) page =
    (nat_le m.base page && nat_lt page (m.base + pages_of (slice_get modules m.module_no)))
    || is_in_module modules ms page

-- whether a page is taken in the process of this creation, in which these modules are placed
abbrev pub is_taken : Script → ℕ → List PlacedModule → ℕ → Bool
is_taken script creation placed page =
    is_occupied script.occupied creation page || is_in_module script.setup.modules placed page

-- the same of each of the 1024 pages
unfoldable pub taken_pages : Script → ℕ → List PlacedModule → List Bool
taken_pages script creation placed = map (is_taken script creation placed) (range_with_len 0 1024)

-- which creation process w is: the first layer process has Win32 number 2
abbrev pub creation_of : ℕ → ℕ
creation_of w = w - 1

-- the first page of a module that is placed
abbrev pub base_in : List PlacedModule → ℕ → Option ℕ
base_in [] m = None
base_in (x ∷ xs) m = if nat_eq x.module_no m then Some x.base else base_in xs m

abbrev pub placed_of : Option Process → List PlacedModule
placed_of None = []
placed_of (Some p) = p.placed

abbrev pub placed_by : Win32State → ℕ → List PlacedModule
placed_by s w = placed_of (process_of s.processes w)

-- with one more module placed, behind the others
abbrev pub and_placed : List PlacedModule → ℕ → ℕ → List PlacedModule
and_placed placed m base = placed ++ record { module_no = m; base = base } ∷ []

-- module m is placed in process w, at the wanted page or in the lowest free range
pub record Places (script : Script) (s : Win32State) (w m : ℕ) (wanted : Module) (r : Reply)
    (new : Win32State) : Type 0 where
  pub base : ℕ
  pub place : IsPlaceFor (taken_pages script (creation_of w) (placed_by s w)) wanted.base wanted.size base
  pub answered : r ≡ reply.Base base
  pub after : new ≡ with_process s w (λ p. record p { placed = and_placed p.placed m base })

-- `module M`: module M is placed in the caller's process, and a module that is placed already answers its base again.
-- Refusals: badindex, where the caller is the host or the script has no such module.
abbrev pub ModuleStep : Script → Win32State → ℕ → ℕ → Reply → Win32State → Type 0
ModuleStep script s w m r new =
    MatchOption (program_no_by s w) (Gives reply.BadIndex s r new) (λ program_no.
    MatchOption (slice_get script.setup.modules m) (Gives reply.BadIndex s r new) (λ wanted.
    MatchOption (base_in (placed_by s w) m) (Places script s w m wanted r new)
    (λ base. Gives (reply.Base base) s r new)))
