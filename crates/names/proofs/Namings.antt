-- A name found in a list, and a name list that grows by one name after another.
use Rattle.std.proofs.Common.{◌≡◌, ℕ, ◌+◌, ◌<◌, ◌≤◌, Bool, true, false, cond, ◌&&◌, List, [], ◌∷◌, ◌++◌, length, get_or, take, Some, None, Option, Ok, Err, Result, sym, refl, ap, ◌∙◌, add-one, arith, Bor}
use borrow.Author.Tests.{clash}
use Rattle.std.specs.List.{position, position_from}
use Rattle.std.proofs.lemmas.Iterator.Adapters.{position_from-zero}
use Rattle.std.proofs.lemmas.List.{take_all, take_more, length-map, length-take-le, get_or-map, map_push}
use Rattle.fixed_vec.specs.FixedVec.{Extended, items}
use Rattle.fixed_vec.specs.declared.FixedVec.{FixedVec}
use Rattle.fixed_vec.specs.declared.Full.{Full}
use Rattle.grammar.specs.Forms.Form.{no_form, leaf}
use Rattle.grammar.specs.Words.{same}
use Rattle.grammar.specs.Answering.{meant}
use Rattle.grammar.specs.Reading.{Verdict, naming, absent, wrong_in}
use Rattle.grammar.specs.Reading.Verdict.{right, wrong}
use Rattle.grammar.proofs.Listings.{and_no}
use Rattle.grammar.proofs.Listings.{wrong_long}
use Rattle.grammar.proofs.Lists.{leaf_absent, no_absent, right_push, wrong_next}
use Rattle.names.specs.declared.name.Name.{Name}
use Rattle.names.specs.declared.names.Names.{Names}
use Rattle.names.specs.Naming.{Named, bytes_of, found, is_right, names_in, spellings}
use Rattle.names.specs.Lists.{Fresh, names_of}

pub is_right_lem : (v : Verdict) → is_right v ≡ true → v ≡ right
is_right_lem right e = refl
is_right_lem (wrong p) e = absurd (clash e)

meant_from : (n : List ℕ) (i : ℕ) (entries : List Name) → meant i (names_in entries) n ≡ found (position_from (λ e. same (bytes_of e) n) i entries)
meant_from n i [] = refl
meant_from n i (e ∷ es) =
    ap (λ j. cond (same (bytes_of e) n) (leaf i) (meant j (names_in es) n)) (sym (add-one i))
    ∙ go (same (bytes_of e) n) (meant_from n (i + 1) es)
  where
    go : (b : Bool) → meant (i + 1) (names_in es) n ≡ found (position_from (λ e. same (bytes_of e) n) (i + 1) es) → cond b (leaf i) (meant (i + 1) (names_in es) n) ≡ found (cond b (Some i) (position_from (λ e. same (bytes_of e) n) (i + 1) es))
    go true h = refl
    go false h = h

-- a name stands for the place of its entry
pub meant_position : (n : List ℕ) (entries : List Name) → meant 0 (names_in entries) n ≡ found (position (λ e. same (bytes_of e) n) entries)
meant_position n es = meant_from n 0 es ∙ sym (ap found (position_from-zero (λ e. same (bytes_of e) n) es))

-- a right list and a name more that it lacks
pub fine_push : (es : List Name) (name : Name) → length (names_in es) < 32 → is_right (wrong_in (names_in es)) ≡ true → absent (names_in es) (bytes_of name) ≡ true → is_right (wrong_in (names_in (es ++ name ∷ []))) ≡ true
fine_push es name k r a =
    ap (λ ns. is_right (wrong_in ns)) (map_push bytes_of es name)
    ∙ ap is_right (right_push (names_in es) (bytes_of name) k (is_right_lem _ r) name.legal a)

-- the same of a list in fixed memory, which is full or takes the name
pub taken : (old more : FixedVec Name 32) (name : Name) (r : Result (Unit {0}) Full) → Extended old more (name ∷ []) r → length (names_in (items old)) < 32 → is_right (wrong_in (names_in (items old))) ≡ true → absent (names_in (items old)) (bytes_of name) ≡ true → is_right (wrong_in (names_in (items more))) ≡ true
taken old more name (Ok u) e k r a = ap (λ es. is_right (wrong_in (names_in es))) e ∙ fine_push (items old) name k r a
taken old more name (Err f) e k r a = ap (λ v. is_right (wrong_in (names_in (items v)))) e.0 ∙ r

pub fresh_taken : (names : List (List ℕ)) (bytes : List ℕ) (i : ℕ) → meant 0 names bytes ≡ leaf i → Fresh names bytes None
fresh_taken names bytes i e = and_no (naming bytes) (absent names bytes) (leaf_absent names 0 i bytes e)

pub fresh_new : (names : List (List ℕ)) (bytes : List ℕ) (r : Option Name) → meant 0 names bytes ≡ no_form → Named bytes r → Fresh names bytes r
fresh_new names bytes (Some n) e h = (no_absent names 0 bytes e, h.1)
fresh_new names bytes None e h = ap (λ b. b && absent names bytes) h

-- a list that holds the first i of the names
module _ (ns : List (Bor (List ℕ))) where
  long : length (spellings ns) ≡ length ns
  long = length-map ns (λ n. n.now)

  at : (i : ℕ) (d : Bor (List ℕ)) → i < length ns → get_or (spellings ns) i [] ≡ (get_or ns i d).now
  at i d h = get_or-map (λ n. n.now) ns i d [] h

  pub many : 32 < length ns → wrong_in (spellings ns) ≡ wrong 32
  many h = let e = long in wrong_long (spellings ns) (omega arith)

  module _ (l : Names) (i : ℕ) (e : names_of l ≡ take i (spellings ns)) where
    pub count_is : i ≤ length ns → length (names_of l) ≡ i
    count_is h = let x = long in ap length e ∙ length-take-le i (spellings ns) (omega arith)

    right_front : wrong_in (take i (spellings ns)) ≡ right
    right_front = ap wrong_in (sym e) ∙ is_right_lem _ l.fine

    pub not_fresh : length ns ≤ 32 → i < length ns → (d : Bor (List ℕ)) → Fresh (names_of l) (get_or ns i d).now None → wrong_in (spellings ns) ≡ wrong i
    not_fresh n h d w =
        let x = long in
        wrong_next (spellings ns) i (omega arith) (omega arith) right_front
        ((λ t. naming (at i d h t) && absent (sym e t) (at i d h t)) ∙ w)

    pub grown : i < length ns → (d : Bor (List ℕ)) (more : Names) (name : Name) → bytes_of name ≡ (get_or ns i d).now → names_of more ≡ names_of l ++ bytes_of name ∷ [] → names_of more ≡ take (i + 1) (spellings ns)
    grown h d more name b m =
        let x = long in
        m ∙ (λ t. e t ++ (b ∙ sym (at i d h)) t ∷ []) ∙ sym (take_more (spellings ns) i [] (omega arith))

    pub whole : length ns ≤ i → (wrong_in (spellings ns) ≡ right) × (names_of l ≡ spellings ns)
    whole h =
        let x = long in
        let all = take_all i (spellings ns) (omega arith) in
        (ap wrong_in (sym all) ∙ right_front, e ∙ all)
