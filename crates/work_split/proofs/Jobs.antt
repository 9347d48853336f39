-- The list of jobs, as it is made.
use Rattle.std.proofs.Common.{◌≡◌, ℕ, ◌<◌, List, [], ◌∷◌, ◌++◌, Result, Ok, Err, IfOk, length, get_or, sym, ◌∙◌, ap, subst, inl, inr, arith, length-append}
use Rattle.std.proofs.lemmas.Bool.{cases_lt}
use Rattle.std.proofs.lemmas.List.{length_push, get_or_push, get_or_append_left, get_or_at, get_or_default}
use Rattle.std.specs.declared.ops.Range.{Range}
use Rattle.std.specs.Global.{Vec}
use Rattle.work_split.specs.declared.tasks.Job.{Job}
use Rattle.work_split.specs.Tasks.{IsAt, IsJob, EachIsJob, AreJobs}

-- one more job
pub jobs-push : {T : Type 0} (pieces : List (Range ℕ)) (given : List T) (jobs : List (Job T)) (last : Job T)
    → IsJob pieces given (length jobs) last → EachIsJob pieces given jobs → EachIsJob pieces given (jobs ++ last ∷ [])
jobs-push {T} pieces given jobs last is_last each w job within at =
    elim (cases_lt w (length jobs)) [
      | inl before ↦ each w job before (at ∙ get_or_append_left jobs (last ∷ []) job w before)
      | inr past ↦
          let here : length jobs ≡ w = omega (arith, length_push jobs last) in
          let same : job ≡ last = at ∙ get_or_push jobs last job w here in
          let Fits : ℕ → Type 0 = λ n. IsJob pieces given n last in
          let Is : Job T → Type 0 = λ j. IsJob pieces given w j in
          subst Is (sym same) (subst Fits here is_last)
    ]

-- the job of the next worker
pub jobs_next : {T : Type 0} (pieces : List (Range ℕ)) (empty : Range ℕ) (yielded rest rest' given : List T) (own : T) (jobs jobs' : List (Job T)) (worker : ℕ)
    → yielded ++ rest ≡ given → rest ≡ own ∷ rest' → length given ≡ length pieces → length jobs ≡ length yielded → worker ≡ length jobs
    → EachIsJob pieces given jobs → jobs' ≡ jobs ++ record { worker = worker; piece = get_or pieces worker empty; given = own } ∷ []
    → EachIsJob pieces given jobs'
jobs_next {T} pieces empty yielded rest rest' given own jobs jobs' worker all next whole count number each grown =
    let joined : given ≡ yielded ++ (own ∷ rest') = sym all ∙ ap (λ r. yielded ++ r) next in
    let room : length yielded < length pieces = omega (arith, ap (length {A = T}) joined, length-append yielded (own ∷ rest')) in
    let place : own ≡ get_or given (length jobs) own = rw joined (sym (get_or_at yielded own rest' own (length jobs) (sym count))) in
    let piece : get_or pieces worker empty ≡ get_or pieces (length jobs) (get_or pieces worker empty) =
    rw number (get_or_default pieces (length jobs) empty (get_or pieces (length jobs) empty) (omega arith)) in
    let Each : List (Job T) → Type 0 = λ js. EachIsJob pieces given js in
    subst Each (sym grown) (jobs-push pieces given jobs (record { worker = worker; piece = get_or pieces worker empty; given = own })
    (record { worker = number; piece = piece; own = place }) each)

-- one more job for one more element
pub count_next : {T J : Type 0} (yielded : List T) (own : T) (jobs jobs' : List J) (job : J)
    → length jobs ≡ length yielded → jobs' ≡ jobs ++ job ∷ [] → length jobs' ≡ length (yielded ++ own ∷ [])
count_next {T} {J} yielded own jobs jobs' job count grown =
    omega (arith, ap (length {A = J}) grown, length_push jobs job, length_push yielded own, count)

-- what stands at a place does so with any default
pub read_at : {X : Type 0} (xs : List X) (i : ℕ) (x y : X) → i < length xs → IsAt xs i x → IsAt xs i y → x ≡ y
read_at xs i x y within at_x at_y = at_x ∙ get_or_default xs i x y within ∙ sym at_y

-- the job of worker w is made of piece w and what is given at w
pub job_at : {T : Type 0} (pieces : List (Range ℕ)) (given : List T) (jobs : List (Job T)) (w : ℕ) (p : Range ℕ) (x : T)
    → AreJobs pieces given jobs → length given ≡ length pieces → w < length pieces → IsAt pieces w p → IsAt given w x
    → IsAt jobs w (record { worker = w; piece = p; given = x })
job_at {T} pieces given jobs w p x are whole within at_p at_x =
    let made : Job T = record { worker = w; piece = p; given = x } in
    let found : Job T = get_or jobs w made in
    let here : w < length jobs = omega (arith, are.count) in
    let is : IsJob pieces given w found = are.each w found here (get_or_default jobs w made found here) in
    let same_piece : p ≡ found.piece = read_at pieces w p found.piece within at_p is.piece in
    let same_own : x ≡ found.given = read_at given w x found.given (omega arith) at_x is.own in
    let by_worker : made ≡ record { worker = found.worker; piece = p; given = x } =
    ap (λ (v : ℕ). record { worker = v; piece = p; given = x }) (sym is.worker) in
    let by_piece : record { worker = found.worker; piece = p; given = x } ≡ record { worker = found.worker; piece = found.piece; given = x } =
    ap (λ (q : Range ℕ). record { worker = found.worker; piece = q; given = x }) same_piece in
    let by_own : record { worker = found.worker; piece = found.piece; given = x } ≡ found =
    ap (λ (z : T). record { worker = found.worker; piece = found.piece; given = z }) same_own in
    by_worker ∙ by_piece ∙ by_own

-- what holds of each job's answer, said of each piece
pub each_piece : {T U E : Type 0} (Post : ℕ → Range ℕ → T → U → Type 0)
    (pieces : List (Range ℕ)) (given : List T) (jobs : List (Job T)) (r : Result (Vec U) E)
    → AreJobs pieces given jobs → length given ≡ length pieces
    → IfOk r (λ answers. (w : ℕ) (j : Job T) (y : U) → w < length jobs → IsAt jobs w j → IsAt answers.items w y → Post j.worker j.piece j.given y)
    → IfOk r (λ answers. (w : ℕ) (p : Range ℕ) (x : T) (y : U) → w < length pieces → IsAt pieces w p → IsAt given w x → IsAt answers.items w y → Post w p x y)
each_piece Post pieces given jobs (Err e) are whole told = told
each_piece Post pieces given jobs (Ok answers) are whole told = λ w p x y within at_p at_x at_y.
    told w (record { worker = w; piece = p; given = x }) y (omega (arith, are.count))
    (job_at pieces given jobs w p x are whole within at_p at_x) at_y
