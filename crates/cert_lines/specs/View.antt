-- The line that a `CertLine` is.
use Rattle.std.specs.Prelude.{List, map}
use Rattle.logic_terms.specs.View.{term, formula}
use Rattle.cert_lines.specs.Line.{Step, sum_of, tighten, Line, given, opening, choice, propagation, linear, trichotomy, instance, witness, replacing, array_fact, extensionality, field_fact, division, product, computing, Code, c1, c2, c3, c4, c5, c6, c7, c8, c9, c10, c11, c12, c13, c14}
use Rattle.cert_lines.specs.declared.step.StepLine.{StepLine}
use Rattle.cert_lines.specs.declared.line.CertLine.{CertLine}
use Rattle.cert_lines.specs.declared.line.Cert.{Cert}
use Rattle.cert_lines.specs.declared.rule.Rule.{Rule}

abbrev pub step : StepLine → Step
step (StepLine.Add i m j k) = sum_of i m j k
step (StepLine.Tighten i) = tighten i

abbrev pub line : CertLine → Line
line (CertLine.Given k) = given k
line (CertLine.Open p a) = opening p (formula a)
line (CertLine.Case p t) = choice p (term t)
line (CertLine.Rup ls ks) = propagation (map formula ls) ks
line (CertLine.Lin ls ss) = linear (map formula ls) (map step ss)
line (CertLine.Tri a b) = trichotomy (term a) (term b)
line (CertLine.Ins t q) = instance (term t) (formula q)
line (CertLine.New k q) = witness k (formula q)
line (CertLine.Same d k e l) = replacing d k (formula e) (formula l)
line (CertLine.Arr p t) = array_fact p (term t)
line (CertLine.Ext a b) = extensionality (term a) (term b)
line (CertLine.Fld p t) = field_fact p (term t)
line (CertLine.Div p a d) = division p (term a) d
line (CertLine.Mul f g) = product (term f) (term g)
line (CertLine.Calc a) = computing (formula a)

abbrev pub lines : Cert → List Line
lines c = map line c.lines

abbrev pub code : Rule → Code
code Rule.C1 = c1
code Rule.C2 = c2
code Rule.C3 = c3
code Rule.C4 = c4
code Rule.C5 = c5
code Rule.C6 = c6
code Rule.C7 = c7
code Rule.C8 = c8
code Rule.C9 = c9
code Rule.C10 = c10
code Rule.C11 = c11
code Rule.C12 = c12
code Rule.C13 = c13
code Rule.C14 = c14
