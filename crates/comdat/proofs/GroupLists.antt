-- Lists that loops over groups collect, and what stands in lists.
use Rattle.std.proofs.Common.{◌≡◌, ℕ, ◌+◌, ◌<◌, ◌≤◌, Bool, true, false, if◌then◌else◌, List, [], ◌∷◌, ◌++◌, length, take, get_or, All, Contains, refl, sym, ap, ◌∙◌, ⊎_elim, arith}
use Rattle.std.specs.Prelude.{Option, Some, None, is_some, flat_map}
use Rattle.std.specs.Borrow.{Bor}
use Rattle.std.specs.List.{list_any}
use Rattle.std.proofs.lemmas.List.{append-nil, flat_map_more, map_push, take_more, take_all}
use Rattle.std.proofs.lemmas.List.Elements.{All-nil, All-append, Contains-append_right}
use Rattle.std.proofs.lemmas.Bool.{cases_Bool, cond-true, cond-false, or_cases}
use Rattle.lk_tables.specs.declared.objects.Object.{Object}
use Rattle.lk_tables.specs.FileView.{object_of_file}
use Rattle.lk_tables.specs.Files.{File, file_at}
use Rattle.lk_tables.specs.Objects.{GroupView, ObjectView}
use Rattle.lk_tables.specs.Names.{text_of}
use Rattle.lk_tables.proofs.BoundHas.{each_if, one_if}
use Rattle.name_numbers.specs.Texts.{lent_texts}
use Rattle.name_numbers.proofs.Walks.{all_range}
use Rattle.comdat.specs.declared.groups.ComdatGroup.{ComdatGroup}
use Rattle.comdat.specs.Comdats.{comdat_view, comdat_views}
use Rattle.comdat.specs.Discarded.{Comdat, comdat_of, comdats_in, comdats}
use Rattle.comdat.specs.Marks.{IsOfFiles}
use Rattle.comdat.specs.Signatures.{signatures}

-- a loop over a list that collects: one element more
pub take_flat : {X Y : Type 0} (g : X → List Y) (xs : List X) (i : ℕ) (d : X) (base old new : List Y) → i < length xs → new ≡ old ++ g (get_or xs i d) →
    old ≡ base ++ flat_map g (take i xs) → new ≡ base ++ flat_map g (take (i + 1) xs)
take_flat g xs i d base old new lt is before =
    is ∙ ap (λ l. l ++ g (get_or xs i d)) before ∙ flat_map_more g base (take i xs) (get_or xs i d) ∙ ap (λ l. base ++ flat_map g l) (sym (take_more xs i d lt))

-- the signatures of groups
pub signatures_next : (groups : List ComdatGroup) (i : ℕ) (blank : ComdatGroup) (old new : List (Bor (List ℕ))) → i < length groups → new ≡ old ++ (get_or groups i blank).signature ∷ [] →
    lent_texts old ≡ signatures (comdat_views (take i groups)) → lent_texts new ≡ signatures (comdat_views (take (i + 1) groups))
signatures_next groups i blank old new lt push before =
    let x = get_or groups i blank in
    let text : Bor (List ℕ) → List ℕ = λ t. t.now in
    let own : Comdat → List ℕ = λ g. g.signature in
    ap lent_texts push ∙ map_push text old x.signature ∙ ap (λ l. l ++ x.signature.now ∷ []) before
    ∙ sym (ap (λ l. signatures (comdat_views l)) (take_more groups i blank lt) ∙ ap signatures (map_push comdat_view (take i groups) x) ∙ map_push own (comdat_views (take i groups)) (comdat_view x))

pub signatures_all : (groups : List ComdatGroup) (i : ℕ) (list : List (Bor (List ℕ))) → length groups ≤ i → lent_texts list ≡ signatures (comdat_views (take i groups)) → lent_texts list ≡ signatures (comdat_views groups)
signatures_all groups i list le is = is ∙ ap (λ l. signatures (comdat_views l)) (take_all i groups le)

-- the groups of one file: one that is COMDAT, and one that is not
abbrev pub made : (file section : ℕ) (signature members : List ℕ) → Comdat
made file section signature members = record { file = file; section = section; signature = signature; members = members }

pub comdat_next : (b : List ℕ) (f : ℕ) (groups : List GroupView) (i : ℕ) (d g : GroupView) (base old new : List Comdat) (signature : List ℕ) → i < length groups → get_or groups i d ≡ g → g.comdat ≡ true →
    signature ≡ text_of b g.signature → new ≡ old ++ made f g.section signature g.members ∷ [] →
    old ≡ base ++ flat_map (comdat_of b f) (take i groups) → new ≡ base ++ flat_map (comdat_of b f) (take (i + 1) groups)
comdat_next b f groups i d g base old new signature lt read is text push before =
    take_flat (comdat_of b f) groups i d base old new lt
    (push ∙ ap (λ t. old ++ made f g.section t g.members ∷ []) text
    ∙ ap (λ l. old ++ l) (sym (ap (comdat_of b f) read ∙ cond-true g.comdat (made f g.section (text_of b g.signature) g.members ∷ []) [] is)))
    before

pub comdat_skip : (b : List ℕ) (f : ℕ) (groups : List GroupView) (i : ℕ) (d g : GroupView) (base old : List Comdat) → i < length groups → get_or groups i d ≡ g → g.comdat ≡ false →
    old ≡ base ++ flat_map (comdat_of b f) (take i groups) → old ≡ base ++ flat_map (comdat_of b f) (take (i + 1) groups)
comdat_skip b f groups i d g base old lt read not_so before =
    take_flat (comdat_of b f) groups i d base old old lt
    (sym (append-nil old) ∙ ap (λ l. old ++ l) (sym (ap (comdat_of b f) read ∙ cond-false g.comdat (made f g.section (text_of b g.signature) g.members ∷ []) [] not_so)))
    before

-- a file that takes no part has no groups
none_of_none : (o : Option Object) → is_some o ≡ false → (object_of_file o).groups ≡ []
none_of_none None e = refl
none_of_none (Some object) e = absurd cc

pub comdats_all : (o : Option Object) (file : File) (f i : ℕ) (groups : List GroupView) (base list : List Comdat) → file.live ≡ is_some o → file.object ≡ object_of_file o → groups ≡ file.object.groups → length groups ≤ i →
    list ≡ base ++ flat_map (comdat_of file.bytes f) (take i groups) → list ≡ base ++ comdats_in file f
unfolding comdats_in
comdats_all o file f i groups base list live object read all is =
    let whole = flat_map (comdat_of file.bytes f) file.object.groups in
    is ∙ ap (λ l. base ++ flat_map (comdat_of file.bytes f) l) (take_all i groups all ∙ read) ∙ ap (λ l. base ++ l) (⊎_elim
    (λ (lives : file.live ≡ true). sym (cond-true file.live whole [] lives))
    (λ (absent : file.live ≡ false). ap (flat_map (comdat_of file.bytes f)) (ap (λ (x : ObjectView). x.groups) object ∙ none_of_none o (sym live ∙ absent)) ∙ sym (cond-false file.live whole [] absent))
    (cases_Bool file.live))

-- one element that passes
pub any_of : {X : Type 0} (p : X → Bool) (xs : List X) → list_any p xs ≡ true → (x : X) × (Contains xs x × (p x ≡ true))
any_of p [] e = absurd cc
any_of p (x ∷ xs) e = ⊎_elim
    (λ (here : p x ≡ true). (x, ((0, omega arith, refl), here)))
    (λ (later : list_any p xs ≡ true). let r = any_of p xs later in (r.0, (Contains-append_right (x ∷ []) xs r.0 r.1.0, r.1.1)))
    (or_cases (p x) (list_any p xs) e)

-- what holds of each, and what stands in one
pub all_flat : {X Y : Type 0} (P : Y → Type 0) (g : X → List Y) (xs : List X) → ((x : X) → Contains xs x → All P (g x)) → All P (flat_map g xs)
all_flat P g [] each = All-nil P
all_flat P g (x ∷ xs) each =
    All-append P (g x) (flat_map g xs) (each x (0, omega arith, refl))
    (all_flat P g xs (λ y has. each y (Contains-append_right (x ∷ []) xs y has)))

pub in_when : {X : Type 0} (b : Bool) (xs : List X) (x : X) → b ≡ true → Contains xs x → Contains (if b then xs else []) x
in_when true xs x is has = has
in_when false xs x is has = absurd cc

-- each group is of a file that takes part
pub comdats_of_files : (files : List File) → All (IsOfFiles files) (comdats files)
unfolding comdats comdats_in
comdats_of_files files =
    let P : Comdat → Type 0 = IsOfFiles files in
    all_range P (λ f. comdats_in (file_at files f) f) 0 (length files) (λ f low high.
    each_if P (file_at files f).live (flat_map (comdat_of (file_at files f).bytes f) (file_at files f).object.groups) (λ live.
    all_flat P (comdat_of (file_at files f).bytes f) (file_at files f).object.groups (λ g has.
    one_if P g.comdat (made f g.section (text_of (file_at files f).bytes g.signature) g.members) (λ is. record { within = omega arith; live = live }))))
