use Rattle.name_numbers.specs.Numbers.{word_of, words}
use Rattle.std.proofs.Common.{refl}
use Rattle.typing_rules.proofs.Opened.{node_made, subtype_made}
use Rattle.typing_rules.proofs.laws.attributes.Goals as goal

pub returns-clause-first_of_array : goal.returns-clause-first_of_array
unfolding word_of words
returns-clause-first_of_array c = refl

pub returns-clause-first_of_parameter : goal.returns-clause-first_of_parameter
unfolding word_of words
returns-clause-first_of_parameter c = refl

pub returns-clause-first_of_component : goal.returns-clause-first_of_component
unfolding word_of words
returns-clause-first_of_component c = refl

pub returns-clause-last_of_subtype : goal.returns-clause-last_of_subtype
unfolding word_of words
returns-clause-last_of_subtype c = refl

pub returns-clause-first_of_number : goal.returns-clause-first_of_number
unfolding word_of words
returns-clause-first_of_number c = refl

pub returns-clause-static_length : goal.returns-clause-static_length
unfolding word_of words
returns-clause-static_length c = refl

pub returns-clause-length_of_context : goal.returns-clause-length_of_context
unfolding word_of words
returns-clause-length_of_context c = simp (subtype_made, node_made)

pub returns-clause-length_beside : goal.returns-clause-length_beside
unfolding word_of words
returns-clause-length_beside c = simp (subtype_made, node_made)

pub returns-clause-length_alone : goal.returns-clause-length_alone
unfolding word_of words
returns-clause-length_alone c = refl

pub returns-clause-successor : goal.returns-clause-successor
unfolding word_of words
returns-clause-successor c = simp (subtype_made, node_made)

pub returns-clause-successor_of_last : goal.returns-clause-successor_of_last
unfolding word_of words
returns-clause-successor_of_last c = simp (subtype_made, node_made)

pub returns-clause-successor_of_modular : goal.returns-clause-successor_of_modular
unfolding word_of words
returns-clause-successor_of_modular c = refl

pub returns-clause-position : goal.returns-clause-position
unfolding word_of words
returns-clause-position c = simp (subtype_made, node_made)

pub returns-clause-literal_at : goal.returns-clause-literal_at
unfolding word_of words
returns-clause-literal_at c = refl

pub returns-clause-old : goal.returns-clause-old
unfolding word_of words
returns-clause-old c = refl

pub returns-clause-old_elsewhere : goal.returns-clause-old_elsewhere
unfolding word_of words
returns-clause-old_elsewhere c = refl

pub returns-clause-old_of_part : goal.returns-clause-old_of_part
unfolding word_of words
returns-clause-old_of_part c = refl

pub returns-clause-result : goal.returns-clause-result
unfolding word_of words
returns-clause-result c = refl

pub returns-clause-result_of_another : goal.returns-clause-result_of_another
unfolding word_of words
returns-clause-result_of_another c = refl

pub returns-clause-loop_entry : goal.returns-clause-loop_entry
unfolding word_of words
returns-clause-loop_entry c = refl

pub returns-clause-entry_of_own_parameter : goal.returns-clause-entry_of_own_parameter
unfolding word_of words
returns-clause-entry_of_own_parameter c = refl
