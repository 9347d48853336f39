-- How a shelf is stored, by which two of them are compared.
use Rattle.std.specs.Prelude.{◌≡◌, ℕ, Bool, true, false, List, refl}
use Rattle.std.specs.Coded.{Coded, code_by, coded×, coded_ℕ, coded_bool, coded_list}
use Rattle.std.specs.FinMap.{code}
use Rattle.lk_depot.specs.Files.{Files, Kinds}
use Rattle.lk_depot.specs.Shelf.{Shelf}
use Rattle.lk_depot.specs.declared.kinds.FileKind.{FileKind}
use Rattle.lk_depot.specs.declared.kinds.FileKind.TheVariants.{Executable, Plain}

abbrev is_executable : FileKind → Bool
is_executable Executable = true
is_executable Plain = false

abbrev kind_from : Bool → FileKind
kind_from true = Executable
kind_from false = Plain

pub kind_back : (kind : FileKind) → kind_from (is_executable kind) ≡ kind
kind_back Executable = refl
kind_back Plain = refl

abbrev kind_code : Coded FileKind
kind_code = code_by Bool coded_bool is_executable kind_from kind_back

abbrev files_code : Coded Files
files_code = code (coded_list coded_ℕ) (coded_list coded_ℕ)

abbrev kinds_code : Coded Kinds
kinds_code = code (coded_list coded_ℕ) kind_code

abbrev names_code : Coded (List (List ℕ))
names_code = coded_list (coded_list coded_ℕ)

-- The counts, and the limits.
abbrev counts_code : Coded (ℕ × (ℕ × ℕ))
counts_code = coded× coded_ℕ (coded× coded_ℕ coded_ℕ)

abbrev pub shelf_code : Coded Shelf
shelf_code =
    code_by ((Files × Kinds) × ((ℕ × (ℕ × ℕ)) × ((List (List ℕ) × List ℕ) × (ℕ × ℕ))))
    (coded× (coded× files_code kinds_code) (coded× counts_code (coded× (coded× names_code (coded_list coded_ℕ)) (coded× coded_ℕ coded_ℕ))))
    (λ s. ((s.files, s.kinds), ((s.faults, (s.begun, s.calls)), ((s.unread, s.fails), (s.most, s.room)))))
    (λ p. record {
      files = p.0.0;
      kinds = p.0.1;
      faults = p.1.0.0;
      begun = p.1.0.1.0;
      calls = p.1.0.1.1;
      unread = p.1.1.0.0;
      fails = p.1.1.0.1;
      most = p.1.1.1.0;
      room = p.1.1.1.1;
    })
    (λ _. refl)
