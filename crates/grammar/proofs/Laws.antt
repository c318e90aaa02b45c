-- The laws, each from the file that proves it.
use Rattle.std.proofs.Common.{ap, ◌∙◌, arith}
use Rattle.grammar.specs.Reading.{first_list, read_of}
use Rattle.grammar.specs.Shape.{tree_of}
use Rattle.grammar.specs.Writing.{written}
use Rattle.grammar.proofs.Soundness.{sound}
use Rattle.grammar.proofs.Completeness.{complete_end, one_tree}
use Rattle.grammar.proofs.Viability.{viable, alive}
use Rattle.grammar.proofs.Cutting.{is_cut, from_cut, only_cut}
use Rattle.grammar.proofs.Answering.{answers, only}
use Rattle.grammar.proofs.Listings.{naming_name, name_naming, answers_all, only_all, right_names}
use Rattle.grammar.proofs.Rights.{right_fine}
use Rattle.grammar.proofs.Roundtrip.{short, reads_back}
use Rattle.grammar.proofs.Rereading.{reread}
use Rattle.grammar.proofs.Trees.{tree_is, tree_parts}
use Rattle.grammar.proofs.Places.{places}
use Rattle.grammar.proofs.Once.{once}
use Rattle.grammar.proofs.Odd.{odd}
use Rattle.grammar.proofs.Strikes.{struck_back}
use Rattle.grammar.specs.Laws.{Laws}

pub laws : Laws
laws = record {
  words = λ text. (is_cut text 0, λ s h. only_cut h);
  from_place = from_cut;
  grammar = λ ws f. (sound ws f, complete_end ws f);
  one_tree = one_tree;
  in_time = λ ws. (viable ws, alive ws);
  names = (λ n. (naming_name n, name_naming n), λ names. (right_fine names, right_names names));
  of_text = λ names text. (answers names text, λ a h. only names text h);
  answers = λ names text. (answers_all names text, λ a h. only_all names text h);
  back = λ names f v k n. (omega (arith, short names v f k), ap (λ x. first_list x (read_of names (written names f))) (right_names names v) ∙ reads_back names f v k n);
  again = reread;
  shapes = λ ps f. (tree_is ps f, λ e. ap tree_of e ∙ tree_parts f);
  places = places;
  once = once;
  odd = odd;
  struck_back = struck_back;
}
