-- What the steps of real files mean for a depot.
use Rattle.std.proofs.Common.{◌≡◌, ℕ, ◌≤◌, List, length, map, take, refl, sym, ◌∙◌, subst, arith, is_ok}
use Rattle.std.proofs.lemmas.List.{length-map}
use Rattle.std.specs.Prelude.{Result, Ok, Err, IfOk, if◌then◌else◌, None}
use Rattle.std.specs.Global.{Vec}
use Rattle.lk_depot.specs.Faults.{Rose, Rises, HasCause}
use Rattle.lk_depot.specs.Files.{IsFile}
use Rattle.lk_depot.specs.Loading.{AfterLoads}
use Rattle.lk_depot.specs.Store.{unread_after}
use Rattle.lk_depot.specs.declared.stops.Failed.{Failed as Fault}
use Rattle.lk_depot.specs.declared.stops.LoadAllStop.{LoadAllStop}
use Rattle.lk_depot.specs.declared.stops.LoadAllStop.TheVariants as stops
use Rattle.lk_depot.specs.declared.stops.LoadStop.{LoadStop}
use Rattle.lk_depot.specs.declared.stops.LoadStop.TheVariants.{Absent, Failed, Memory}
use Rattle.lk_real.specs.Reading.{IsOfNames}
use Rattle.lk_real.specs.RealFiles.{RealFiles, store_of, after_load, after_loads, after_begin, after_append}

-- what a load counts and keeps
pub record Loaded {T : Type 0} (before after : RealFiles) (name : List ℕ) (result : Result T LoadStop) : Type 0 where
  pub failed : result ≡ Err Failed → Rose before.faults after.faults
  pub unread : after.unread ≡ unread_after result name before.unread
  pub later : before.faults ≤ after.faults
  pub begun : after.begun ≡ before.begun

loaded_so : {T : Type 0} (result : Result T LoadStop) (before : RealFiles) (name : List ℕ) → Loaded before (after_load before name result) name result
loaded_so (Ok x) before name = record { failed = λ e. absurd cc; unread = refl; later = omega arith; begun = refl }
loaded_so (Err Absent) before name = record { failed = λ e. absurd cc; unread = refl; later = omega arith; begun = refl }
loaded_so (Err Failed) before name = record { failed = λ e. omega arith; unread = refl; later = omega arith; begun = refl }
loaded_so (Err Memory) before name = record { failed = λ e. absurd cc; unread = refl; later = omega arith; begun = refl }

pub loaded : {T : Type 0} (result : Result T LoadStop) (before after : RealFiles) (name : List ℕ) → after ≡ after_load before name result
    → Loaded before after name result
loaded result before after name is = subst (λ (s : RealFiles). Loaded before s name result) (sym is) (loaded_so result before name)

-- what loading a list counts and keeps
pub record LoadedAll (before after : RealFiles) (names : List (List ℕ)) (result : Result (Vec (Vec ℕ)) LoadAllStop) : Type 0 where
  pub loads : AfterLoads (store_of before) (store_of after) names result
  pub later : before.faults ≤ after.faults
  pub begun : after.begun ≡ before.begun

all_so : (result : Result (Vec (Vec ℕ)) LoadAllStop) (before : RealFiles) (names : List (List ℕ)) → IsOfNames (length names) result
    → LoadedAll before (after_loads before names result) names result
all_so (Ok buffers) before names is = record {
  loads = (record { as_many = length-map buffers.items (λ buffer. buffer.items) ∙ is; found = tt }, refl);
  later = omega arith;
  begun = refl;
}
all_so (Err (stops.Absent place)) before names is = absurd is
all_so (Err (stops.Failed place)) before names is = record {
  loads = record {
    within = is;
    rose = omega arith;
    unread = refl;
    earlier = (take place names, record { as_many = refl; found = tt });
  };
  later = omega arith;
  begun = refl;
}
all_so (Err stops.Memory) before names is = record { loads = refl; later = omega arith; begun = refl }

-- Of a list of names the clauses speak by their bytes.
pub loaded_all : {Y : Type 0} (bytes : Y → List ℕ) (names : List Y) (result : Result (Vec (Vec ℕ)) LoadAllStop) (before after : RealFiles)
    → IsOfNames (length names) result → after ≡ after_loads before (map bytes names) result → LoadedAll before after (map bytes names) result
loaded_all bytes names result before after of is =
    let P : ℕ → Type 0 = λ n. IsOfNames n result in
    let fits : IsOfNames (length (map bytes names)) result = subst P (sym (length-map names bytes)) of in
    subst (λ (s : RealFiles). LoadedAll before s (map bytes names) result) (sym is) (all_so result before (map bytes names) fits)

pub untold_file : {E : Type 0} (result : Result (Vec ℕ) E) (name : List ℕ) → IfOk result (λ bytes. IsFile None name bytes.items)
untold_file (Ok x) name = tt
untold_file (Err e) name = tt

-- what an append counts
pub record Appended {T : Type 0} (before after : RealFiles) (result : Result T Fault) : Type 0 where
  pub cause : HasCause before.faults after.faults result
  pub begun : after.begun ≡ before.begun
  pub unread : after.unread ≡ before.unread

appended_so : {T : Type 0} (result : Result T Fault) (before : RealFiles) → Appended before (after_append before result) result
appended_so (Ok x) before = record { cause = record { later = omega arith; failed = tt }; begun = refl; unread = refl }
appended_so (Err e) before = record { cause = record { later = omega arith; failed = omega arith }; begun = refl; unread = refl }

pub appended : {T : Type 0} (result : Result T Fault) (before after : RealFiles) → after ≡ after_append before result → Appended before after result
appended result before after is = subst (λ (s : RealFiles). Appended before s result) (sym is) (appended_so result before)

-- what a begin counts
pub record Begun {T : Type 0} (before after : RealFiles) (result : Result T Fault) : Type 0 where
  pub cause : HasCause before.faults after.faults result
  pub begun : Rises before.begun after.begun
  pub unread : after.unread ≡ before.unread

begun_so : {T : Type 0} (result : Result T Fault) (before : RealFiles) → Begun before (after_begin before result) result
begun_so (Ok x) before = record { cause = record { later = omega arith; failed = tt }; begun = record { later = omega arith; rose = omega arith }; unread = refl }
begun_so (Err e) before = record { cause = record { later = omega arith; failed = omega arith }; begun = record { later = omega arith; rose = omega arith }; unread = refl }

pub begun : {T : Type 0} (result : Result T Fault) (before after : RealFiles) → after ≡ after_begin before result → Begun before after result
begun result before after is = subst (λ (s : RealFiles). Begun before s result) (sym is) (begun_so result before)

-- A depot that shows no files shows none after a begin.
pub put_nowhere : {T E X : Type 0} (x : X) (result : Result T E) → x ≡ (if is_ok result then x else x)
put_nowhere x (Ok _) = refl
put_nowhere x (Err _) = refl
