-- A text of words, one word more.
use Rattle.std.proofs.Common.{◌≡◌, ℕ, zero, suc, ◌+◌, ◌<◌, List, [], ◌++◌, length, get_or, take, codes, decimal, sym, ap, ◌∙◌, append_assoc, add-one, arith}
use Rattle.std.proofs.lemmas.List.{append-nil, take_more, flat_map_more}
use Rattle.std.specs.declared.fmt.Formatter.{Formatter}
use Rattle.std.specs.Fmt.{HasWritten}
use Rattle.std.proofs.Output.{has_written_append, has_written_of_eq}
use Rattle.flow.specs.Meaning.{Meaning}
use Rattle.chart.specs.Chart.{label_word, label_words, next_words, state_line, lines_from}

-- the words of the k numbers from i on
abbrev words_from : (ℕ → List ℕ) → ℕ → ℕ → List ℕ
words_from f i zero = []
words_from f i (suc k) = f i ++ words_from f (i + 1) k

words_more : (f : ℕ → List ℕ) (i k : ℕ) → words_from f i (suc k) ≡ words_from f i k ++ f (i + k)
words_more f i zero = let e : i ≡ i + 0 = omega arith in append-nil (f i) ∙ ap f e
words_more f i (suc k) =
    let e : i + 1 + k ≡ i + suc k = omega arith in
    ap (λ (xs : List ℕ). f i ++ xs) (words_more f (i + 1) k)
    ∙ sym (append_assoc (f i) (words_from f (i + 1) k) (f (i + 1 + k)))
    ∙ ap (λ (n : ℕ). (f i ++ words_from f (i + 1) k) ++ f n) e

more : (f : ℕ → List ℕ) (k : ℕ) → words_from f 0 k ++ f k ≡ words_from f 0 (k + 1)
more f k =
    let z : k ≡ 0 + k = omega arith in
    ap (λ (n : ℕ). words_from f 0 k ++ f n) z ∙ sym (words_more f 0 k) ∙ ap (words_from f 0) (sym (add-one k))

module _ (m : Meaning) (names : List (List ℕ)) where
  pub labels_more : (s l : ℕ) → label_words m names s 0 l ++ label_word m names s l ≡ label_words m names s 0 (l + 1)
  labels_more s l = more (label_word m names s) l

  pub lines_more : (s : ℕ) → lines_from m names 0 s ++ state_line m names s ≡ lines_from m names 0 (s + 1)
  lines_more s = more (state_line m names) s

pub nexts_more : (ts : List ℕ) (k : ℕ) → k < length ts → next_words (take k ts) ++ (codes " " ++ decimal (get_or ts k 0)) ≡ next_words (take (k + 1) ts)
nexts_more ts k h = flat_map_more (λ t. codes " " ++ decimal t) [] (take k ts) (get_or ts k 0) ∙ ap next_words (sym (take_more ts k 0 h))

-- six words written in five goes
pub line_written : {W : Type 0} {took : W → List ℕ → W → Type 0} {o o₁ o₂ o₃ o₄ o₅ : Formatter W} {b' : List ℕ} (a b c d e f : List ℕ) → b' ≡ b → HasWritten took o (a ++ b') o₁ → HasWritten took o₁ c o₂ → HasWritten took o₂ d o₃ → HasWritten took o₃ e o₄ → HasWritten took o₄ f o₅ → HasWritten took o (a ++ (b ++ (c ++ (d ++ (e ++ f))))) o₅
line_written {W} {took} {o} {o₁} {o₂} {o₃} {o₄} {o₅} {b'} a b c d e f p w₁ w₂ w₃ w₄ w₅ =
    let words : ((((a ++ b') ++ c) ++ d) ++ e) ++ f ≡ a ++ (b ++ (c ++ (d ++ (e ++ f)))) = simp (p, append_assoc) in
    has_written_of_eq took _ _ _ _ words
    (has_written_append took _ _ _ _ _ (has_written_append took _ _ _ _ _ (has_written_append took _ _ _ _ _ (has_written_append took _ _ _ _ _ w₁ w₂) w₃) w₄) w₅)
