-- A stretch of a list, with the place where it begins.
use Rattle.std.proofs.Common.{◌≡◌, ℕ, ◌+◌, ◌≤◌, List, [], ◌∷◌, ◌++◌, length, get_or, take, sym, refl, ap, ◌∙◌, append_assoc, append-nil, arith, length-append, take_at}
use lib.Seq.{get_or_at}

module _ {X : Type 0} where
  pub record Segment (xs : List X) (k : ℕ) (ys : List X) : Type 0 where
    pub before : List X
    pub after : List X
    pub is : xs ≡ before ++ (ys ++ after)
    pub at : length before ≡ k

  pub segment_whole : {xs : List X} → Segment xs 0 xs
  segment_whole {xs} = record { before = []; after = []; is = sym (append-nil xs); at = refl }

  pub segment_front : {xs : List X} {k : ℕ} (ys zs : List X) → Segment xs k (ys ++ zs) → Segment xs k ys
  segment_front ys zs s = record {
    before = s.before;
    after = zs ++ s.after;
    is = s.is ∙ ap (λ l. s.before ++ l) (append_assoc ys zs s.after);
    at = s.at;
  }

  pub segment_back : {xs : List X} {k : ℕ} (ys zs : List X) → Segment xs k (ys ++ zs) → Segment xs (k + length ys) zs
  segment_back ys zs s = record {
    before = s.before ++ ys;
    after = s.after;
    is = s.is ∙ simp append_assoc;
    at = simp length-append (omega (arith, s.at));
  }

  pub segment_last : {xs : List X} {k : ℕ} (ys : List X) (y : X) → Segment xs k (ys ++ y ∷ []) → (d : X) → get_or xs (k + length ys) d ≡ y
  segment_last {xs} {k} ys y s d =
      let b = segment_back ys (y ∷ []) s in
      ap (λ l. get_or l (k + length ys) d) b.is ∙ get_or_at b.before y b.after d (k + length ys) b.at

  pub segment_fits : {xs ys : List X} {k : ℕ} → Segment xs k ys → k + length ys ≤ length xs
  segment_fits {xs} {ys} {k} s = omega (arith, s.at, simp length-append at (ap length s.is))

  pub segment_take : {xs ys : List X} {k : ℕ} → Segment xs k ys → take (k + length ys) xs ≡ take k xs ++ ys
  segment_take {xs} {ys} {k} s =
      ap (take (k + length ys)) (s.is ∙ sym (append_assoc s.before ys s.after))
      ∙ take_at (s.before ++ ys) s.after (k + length ys) (simp length-append (omega (arith, s.at)))
      ∙ ap (λ l. l ++ ys) (sym (ap (take k) s.is ∙ take_at s.before (ys ++ s.after) k s.at))
