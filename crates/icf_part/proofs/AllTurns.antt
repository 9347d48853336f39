-- What holds between two turns, and what is left when no class waits.
use Rattle.std.proofs.Common.{◌≡◌, ℕ, ◌+◌, ◌-◌, ◌<◌, ◌≤◌, ◌==◌, Bool, false, List, [], ◌∷◌, ◌++◌, length, get_or, set, Contains, refl, sym, ap, ◌∙◌, subst, arith}
use Rattle.std.proofs.lemmas.List.{append-nil, length-append}
use Rattle.std.proofs.lemmas.List.Elements.{Contains-append_right}
use Rattle.icf_part.specs.declared.classes.Classes.{Classes}
use Rattle.icf_part.specs.Classes.{AreKept, GoesOn, IsKept, Stands, class_count, label_of, lists_of}
use Rattle.icf_part.specs.Counts.{is_new}
use Rattle.icf_part.specs.Edges.{AreInto, IsDone, IsPending, IsTurned}
use Rattle.icf_part.specs.Numbered.{AreEnds}
use Rattle.icf_part.proofs.Counting.{most}
use Rattle.icf_part.proofs.Started.{empty_queue}
use Rattle.icf_part.proofs.Turning.{IsWay, way_ends, way_on}

pub record IsUnderWay (n : ℕ) (into : List (List ℕ)) (start now : Classes) (before after : ℕ) : Type 0 where
  pub kept : AreKept n now
  pub finer : (a b : ℕ) → a < n → b < n → label_of now a ≡ label_of now b → label_of start a ≡ label_of start b
  pub way : (ends : List (List ℕ)) → AreInto ends into → AreEnds ends start.labels.items → IsPending ends start.labels.items start.waits.items →
      IsWay ends start.labels.items now.labels.items now.waits.items
  pub steps : after + class_count start.labels.items ≡ before + class_count now.labels.items

pub way_first : (n : ℕ) (into : List (List ℕ)) (start : Classes) (s : ℕ) → AreKept n start → IsUnderWay n into start start s s
way_first n into start s kept = record {
  kept = kept;
  finer = λ a b la lb e. e;
  way = λ ends are ends_are pending. record { pending = pending; outer = λ pairs carried joins. joins };
  steps = refl;
}

-- one turn more: `mid` is `now` without the class whose turn it is
pub way_next : (n : ℕ) (into : List (List ℕ)) (start now mid next : Classes) (label before s t : ℕ) → length into ≡ n → mid.labels.items ≡ now.labels.items →
    mid.waits.items ≡ set now.waits.items label false → IsUnderWay n into start now before s → Stands n mid next s t →
    ((ends : List (List ℕ)) → AreInto ends into → IsTurned ends label mid.labels.items next.labels.items) → IsUnderWay n into start next before t
way_next n into start now mid next label before s t count same waits is stands turned =
    let L : List ℕ → Type 0 = λ l. (a b : ℕ) → a < n → b < n → label_of next a ≡ label_of next b → get_or l a 0 ≡ get_or l b 0 in
    let finer : L now.labels.items = subst L same stands.goes.finer in
    let one : class_count mid.labels.items ≡ class_count now.labels.items = ap (λ l. class_count l) same in
    record {
      kept = stands.kept;
      finer = λ a b la lb e. is.finer a b la lb (finer a b la lb e);
      way = λ ends are ends_are pending.
          let wide : n ≡ length ends = sym count ∙ are.count in
          let G : ℕ → List ℕ → List Bool → Type 0 = λ k l w. GoesOn k l w mid.queue.items next.labels.items next.waits.items next.queue.items in
          let G_labels : List ℕ → Type 0 = λ l. G n l mid.waits.items in
          let G_waits : List Bool → Type 0 = λ w. G n now.labels.items w in
          let G_wide : ℕ → Type 0 = λ k. G k now.labels.items (set now.waits.items label false) in
          let F : ℕ → Type 0 = λ k. (a b : ℕ) → a < k → b < k → label_of now a ≡ label_of now b → label_of start a ≡ label_of start b in
          let T : List ℕ → Type 0 = λ l. IsTurned ends label l next.labels.items in
          way_on ends start.labels.items now.labels.items next.labels.items label now.waits.items next.waits.items mid.queue.items next.queue.items ends_are
          (subst F wide is.finer) (subst G_wide wide (subst G_waits waits (subst G_labels same stands.goes))) (subst T same (turned ends are)) (is.way ends are ends_are pending);
      steps = omega (arith, one, is.steps, stands.steps);
    }

pub way_done : (n : ℕ) (into : List (List ℕ)) (start last : Classes) (before after : ℕ) → length into ≡ n → length start.labels.items ≡ n → length last.queue.items ≡ 0 →
    IsUnderWay n into start last before after → IsDone into start last
way_done n into start last before after count wide none is = record {
  finer = λ a b la lb e. is.finer a b (omega (arith, la, wide)) (omega (arith, lb, wide)) e;
  stable = λ ends are ends_are pending.
      let F : ℕ → Type 0 = λ k. (a b : ℕ) → a < k → b < k → label_of last a ≡ label_of last b → label_of start a ≡ label_of start b in
      way_ends ends start.labels.items last.labels.items last.waits.items ends_are (subst F (sym count ∙ are.count) is.finer)
      (λ label w. empty_queue last.queue.items label none (is.kept.queued label w)) (is.way ends are ends_are pending).pending;
  outer = λ ends pairs are ends_are pending carried joins. (is.way ends are ends_are pending).outer pairs carried joins;
}

-- the class whose turn it is was in the queue
pub label_in : (n label : ℕ) (c : Classes) (left : List ℕ) → AreKept n c → c.queue.items ≡ left ++ label ∷ [] → label < length c.sizes.items
label_in n label c left kept is =
    let P : List ℕ → Type 0 = λ q. Contains q label in
    kept.inside label (subst P (sym is) (Contains-append_right left (label ∷ []) label (0, omega arith, refl)))

count_few : (n : ℕ) (labels : List ℕ) → length labels ≡ n → class_count labels ≤ n
count_few n labels wide = omega (arith, wide, most (is_new (λ b a. get_or labels b 0 == get_or labels a 0)) (length labels))

-- a place of the queue is left free, and each new class takes one
pub turns_fewer : (n label : ℕ) (now next : Classes) (left : List ℕ) → AreKept n now → AreKept n next → now.queue.items ≡ left ++ label ∷ [] →
    length next.queue.items + class_count now.labels.items ≤ length left + class_count next.labels.items →
    length next.queue.items + (n - class_count next.labels.items) < length now.queue.items + (n - class_count now.labels.items)
turns_fewer n label now next left kept also is turns =
    let long = ap length is ∙ length-append left (label ∷ []) in
    omega (arith, turns, long, count_few n now.labels.items kept.wide, count_few n next.labels.items also.wide)

-- the same of a turn's clauses
pub way_turn : (n : ℕ) (into : List (List ℕ)) (start now mid next : Classes) (label before s t : ℕ) → Stands (length mid.labels.items) mid next s t → length into ≡ n →
    IsUnderWay n into start now before s → mid.labels.items ≡ now.labels.items → mid.waits.items ≡ set now.waits.items label false →
    ((ends : List (List ℕ)) → AreInto ends into → IsTurned ends label mid.labels.items next.labels.items) → IsUnderWay n into start next before t
way_turn n into start now mid next label before s t stands count is same waits turned =
    let P : ℕ → Type 0 = λ k. Stands k mid next s t in
    way_next n into start now mid next label before s t count same waits is (subst P (ap length same ∙ is.kept.wide) stands) turned

-- so the measure falls
pub turn_fewer : (n label : ℕ) (now mid next : Classes) (left : List ℕ) (s t : ℕ) → Stands (length mid.labels.items) mid next s t → AreKept n now → now.queue.items ≡ left ++ label ∷ [] →
    mid.labels.items ≡ now.labels.items → mid.queue.items ≡ left → length next.queue.items + (n - class_count next.labels.items) < length now.queue.items + (n - class_count now.labels.items)
turn_fewer n label now mid next left s t stands kept is same queue =
    let P : ℕ → Type 0 = λ k. AreKept k next in
    let turns = stands.goes.turns in
    let counted = ap (λ l. class_count l) same in
    let long = ap length queue in
    turns_fewer n label now next left kept (subst P (ap length same ∙ kept.wide) stands.kept) is (omega (arith, turns, counted, long))

-- where the queue is empty
pub way_end : (n : ℕ) (into : List (List ℕ)) (start now last : Classes) (before after : ℕ) → AreKept n last → last.labels.items ≡ now.labels.items → last.waits.items ≡ now.waits.items →
    length into ≡ n → length start.labels.items ≡ n → length last.queue.items ≡ 0 → IsUnderWay n into start now before after → IsDone into start last
way_end n into start now last before after kept labels waits count wide none is =
    let F : List ℕ → Type 0 = λ l. (a b : ℕ) → a < n → b < n → get_or l a 0 ≡ get_or l b 0 → label_of start a ≡ label_of start b in
    let counted = ap (λ l. class_count l) labels in
    let steps = is.steps in
    way_done n into start last before after count wide none (record {
      kept = kept;
      finer = subst F (sym labels) is.finer;
      way = λ ends are ends_are pending.
          let L : List ℕ → Type 0 = λ l. IsWay ends start.labels.items l now.waits.items in
          let W : List Bool → Type 0 = λ w. IsWay ends start.labels.items last.labels.items w in
          subst W (sym waits) (subst L (sym labels) (is.way ends are ends_are pending));
      steps = omega (arith, steps, counted);
    })

-- and nothing was taken from it
pub queue_left : (n : ℕ) (now : Classes) (left : List ℕ) → AreKept n now → now.queue.items ≡ left ++ [] → IsKept n now.labels.items now.sizes.items (lists_of now.members.items) now.waits.items left
queue_left n now left kept is =
    let P : List ℕ → Type 0 = λ q. IsKept n now.labels.items now.sizes.items (lists_of now.members.items) now.waits.items q in
    subst P (is ∙ append-nil left) kept
