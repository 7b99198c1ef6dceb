-- Items and bounds of arrays, and fields of records (rules C9, C10 and C11).
use Rattle.std.specs.Prelude.{ℕ, zero, suc, ◌==◌, List, [], ◌∷◌, if◌then◌else◌}
use Rattle.logic_terms.specs.Node.{neg, fst, lst, fld, le, eq, sel, upd, sto, fill, fields, any, Node, bound, op1, op2, op3, opn, quant, Nodes, no_nodes, node}
use Rattle.logic_terms.specs.Value.{Kind, records, Kinds, no_kinds, kind}
use Rattle.logic_terms.specs.Binding.{negated}
use Rattle.cert_rules.specs.Judged.{Judged, yields, refused, part_of, only}
use Rattle.cert_rules.specs.Clause.{equals}

abbrev pub stored_facts : Kind → Node → Node → Node → Node → Node → List (List Node)
stored_facts k t a i v j =
    (negated (op2 eq i j) ∷ negated (op2 le (op1 fst a) j) ∷ negated (op2 le j (op1 lst a)) ∷ equals k t v ∷ [])
    ∷ (op2 eq i j ∷ equals k t (op2 sel a j) ∷ []) ∷ []

abbrev pub filled_fact : Kind → Node → Node → Node → Node → Node → List Node
filled_fact k t f l v j = negated (op2 le f j) ∷ negated (op2 le j l) ∷ equals k t v ∷ []

-- what an item or a bound of a changed or filled array is, where k is the kind of the term
abbrev pub array_clause : Kind → Node → ℕ → Judged (List Node)
array_clause k (op2 sel (op3 sto a i v) j) n = part_of (stored_facts k (op2 sel (op3 sto a i v) j) a i v j) n
array_clause k (op1 fst (op3 sto a i v)) n = only 2 (op2 eq (op1 fst (op3 sto a i v)) (op1 fst a) ∷ []) n
array_clause k (op1 lst (op3 sto a i v)) n = only 3 (op2 eq (op1 lst (op3 sto a i v)) (op1 lst a) ∷ []) n
array_clause k (op2 sel (op3 fill f l v) j) n = only 4 (filled_fact k (op2 sel (op3 fill f l v) j) f l v j) n
array_clause k (op1 fst (op3 fill f l v)) n = only 5 (op2 eq (op1 fst (op3 fill f l v)) f ∷ []) n
array_clause k (op1 lst (op3 fill f l v)) n = only 6 (op2 eq (op1 lst (op3 fill f l v)) l ∷ []) n
array_clause k _ n = refused

-- arrays with items of kind k are equal where their bounds are and no item differs
abbrev pub extensional : Kind → Node → Node → List Node
extensional k a b =
    op2 eq a b ∷ negated (op2 eq (op1 fst a) (op1 fst b)) ∷ negated (op2 eq (op1 lst a) (op1 lst b))
    ∷ quant any (op1 fst a) (op1 lst a) (op1 neg (equals k (op2 sel a (bound 0)) (op2 sel b (bound 0)))) ∷ []

abbrev pub node_at : Nodes → ℕ → Judged Node
node_at no_nodes n = refused
node_at (node a ns) zero = yields a
node_at (node a ns) (suc n) = node_at ns n

abbrev pub equal_to : Kind → Node → Judged Node → Judged (List Node)
equal_to k t (yields u) = yields (equals k t u ∷ [])
equal_to k t _ = refused

-- the fields of t, from field n on
abbrev pub fields_from : ℕ → Kinds → Node → Nodes
fields_from n no_kinds t = no_nodes
fields_from n (kind k ks) t = node (op1 (fld n) t) (fields_from (suc n) ks t)

-- a record is the record of its fields
abbrev pub whole_record : Kind → Node → Judged (List Node)
whole_record (records ks) t = yields (op2 eq t (opn fields (fields_from 0 ks t)) ∷ [])
whole_record _ t = refused

abbrev pub updated_field : Kind → Node → ℕ → ℕ → Node → Node → ℕ → Judged (List Node)
updated_field k t j i r v n = if j == i then only 1 (equals k t v ∷ []) n else only 2 (equals k t (op1 (fld j) r) ∷ []) n

-- what a field of a record is, where k is the kind of the term
abbrev pub field_of : Kind → Node → ℕ → Judged (List Node)
field_of k (op1 (fld i) (opn fields ts)) n = if n == 0 then equal_to k (op1 (fld i) (opn fields ts)) (node_at ts i) else refused
field_of k (op1 (fld j) (op2 (upd i) r v)) n = updated_field k (op1 (fld j) (op2 (upd i) r v)) j i r v n
field_of k _ n = refused

abbrev pub field_clause : Kind → Node → ℕ → Judged (List Node)
field_clause k t n = if n == 3 then whole_record k t else field_of k t n
