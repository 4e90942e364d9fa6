-- Lemmas of the opening.
use Rattle.std.proofs.Common.{◌≡◌, ℕ, List, [], None, false, refl, ◌∙◌, ap}
use Rattle.std.specs.FinMap as map
use Rattle.std.specs.FinSet as set
use Rattle.w32_base.specs.declared.setup.Limits.{Limits}
use Rattle.w32_base.specs.declared.setup.Program.{Program}
use Rattle.vm_spec.specs.Image.{Image}
use Rattle.tty_spec.specs.Terminal.{Terminal, opening_terminal}
use Rattle.posix_spec.specs.State.{Record, Records, Numbers, opening, opening_record}
use Rattle.posix_spec.specs.Records.{settled}
use Rattle.posix_model.specs.Machine.{PosixMachine}

-- a machine that has had no event
abbrev pub unstarted : Limits → List Program → Records → Terminal → List ℕ → Numbers → PosixMachine
unstarted limits programs records terminal output used = record {
  limits = limits;
  programs = programs;
  state = record {
    records = records;
    terminal = terminal;
    output = output;
    console = None;
    used = used;
    first_status = None;
    host_came = false;
  };
}

pub settled-opening_record : (image : Image) → settled (opening_record image) ≡ opening_record image
unfolding opening_record
settled-opening_record image = refl

-- with the opening's parts it is the opening machine
pub unstarted_is : (limits : Limits) (programs given : List Program) (records : Records) (terminal : Terminal)
    (output : List ℕ) (used : Numbers) (image : Image) → programs ≡ given →
    records ≡ map.insert map.empty 2 (opening_record image) → terminal ≡ opening_terminal → output ≡ [] →
    used ≡ set.insert set.empty 2 →
    unstarted limits programs records terminal output used
    ≡ record { limits = limits; programs = given; state = opening image }
unstarted_is limits programs given records terminal output used image a b c d e = rw (a, b, c, d, e) refl

abbrev pub no_records : Records
no_records = map.empty

abbrev pub no_numbers : Numbers
no_numbers = set.empty

-- with the first process alone
pub first_record : (old new : Records) (n : ℕ) (r s : Record) (image : Image) →
    new ≡ map.insert old n (settled r) → old ≡ no_records → n ≡ 2 → r ≡ s → s ≡ opening_record image →
    new ≡ map.insert map.empty 2 (opening_record image)
first_record old new n r s image put none number same is =
    put
    ∙ ap (λ (o : Records). map.insert o n (settled r)) none
    ∙ ap (λ (k : ℕ). map.insert no_records k (settled r)) number
    ∙ ap (λ (x : Record). map.insert no_records 2 (settled x)) (same ∙ is)
    ∙ ap (λ (x : Record). map.insert no_records 2 x) (settled-opening_record image)

-- with its number alone
pub first_number : (old new : Numbers) (n : ℕ) → new ≡ set.insert old n → old ≡ no_numbers → n ≡ 2 →
    new ≡ set.insert set.empty 2
first_number old new n put none number =
    put ∙ ap (λ (o : Numbers). set.insert o n) none ∙ ap (λ (k : ℕ). set.insert no_numbers k) number
