-- Which lines are allowed, and the clause that each yields.
use Rattle.std.specs.Prelude.{not, ◌&&◌, ◌==◌, pos, List, [], Option, Some, None}
use Rattle.logic_terms.specs.Node.{Node}
use Rattle.logic_terms.specs.Value.{Kind, arrays, same_int, same_kind}
use Rattle.logic_terms.specs.Names.{names_nothing}
use Rattle.logic_terms.specs.Run.{run, most_nodes}
use Rattle.cert_lines.specs.Line.{Line, given, opening, choice, propagation, linear, trichotomy, instance, witness, replacing, array_fact, extensionality, field_fact, division, product, computing}
use Rattle.cert_rules.specs.Judged.{Judged, yields, refused, when, part_of}
use Rattle.cert_rules.specs.Context.{Context, kind_in, is_number, is_formula, all_formulas, next_symbol}
use Rattle.cert_rules.specs.Opening.{hypothesis, opened, sides, compared, multiplied, computed}
use Rattle.cert_rules.specs.Propagation.{follows}
use Rattle.cert_rules.specs.Linear.{linear_clause}
use Rattle.cert_rules.specs.Quantifiers.{instance_of, witness_of}
use Rattle.cert_rules.specs.Replacing.{replacement}
use Rattle.cert_rules.specs.Compound.{array_clause, extensional, field_clause}
use Rattle.cert_rules.specs.Division.{division_facts}

-- what a rule says of a term, from the term's kind; refused where it is not closed and well sorted
abbrev pub of_kind : Option Kind → (Kind → Judged (List Node)) → Judged (List Node)
of_kind (Some k) f = f k
of_kind None f = refused

abbrev pub of_arrays : Option Kind → Option Kind → (Kind → Judged (List Node)) → Judged (List Node)
of_arrays (Some (arrays j)) (Some (arrays k)) f = when (same_kind j k) (f j)
of_arrays _ _ f = refused

-- The terms and formulas of a line are closed and well sorted, for the goal's symbols and calls and the new symbols before it.
abbrev pub judge : Context → Line → Judged (List Node)
judge c (given k) = hypothesis c.goal.hypotheses c.goal.conclusion k
judge c (opening n p) = when (is_formula c p) (part_of (opened p) n)
judge c (choice n t) = of_kind (kind_in c t) (λ k. part_of (sides k t) n)
judge c (propagation ps hints) = when (all_formulas c ps) (when (follows c.earlier ps hints) (yields ps))
judge c (linear ps steps) = when (all_formulas c ps) (linear_clause c ps steps)
judge c (trichotomy a b) = when (is_number c a && is_number c b) (yields (compared a b))
judge c (instance t q) = when (is_number c t && is_formula c q) (instance_of t q)
judge c (witness k q) = when (k == next_symbol c && is_formula c q) (witness_of k q)
judge c (replacing d k e p) = when (is_formula c e && is_formula c p) (replacement d k e p)
judge c (array_fact n t) = of_kind (kind_in c t) (λ k. array_clause k t n)
judge c (extensionality a b) = of_arrays (kind_in c a) (kind_in c b) (λ k. yields (extensional k a b))
judge c (field_fact n t) = of_kind (kind_in c t) (λ k. field_clause k t n)
judge c (division n a d) = when (is_number c a && not (same_int d (pos 0))) (part_of (division_facts a d) n)
judge c (product f g) = when (is_number c f && is_number c g) (yields (multiplied f g))
judge c (computing p) = when (is_formula c p && names_nothing p) (computed p (run most_nodes [] p))
