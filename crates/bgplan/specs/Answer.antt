-- What the program answers a reader and a writer, as far as their bytes are known. D is docs/SPECIFICATION.md, section 12.
-- Assumes nothing.
use Rattle.std.specs.Prelude.{List, ℕ, Option, Result, Ok, Err, IfSome, take}
use Rattle.std.specs.Io.KnownBytes.{Appends, Keeps}
use Rattle.lines.specs.Text.{plan_text}
use Rattle.show.specs.Case.{case_plan}
use Rattle.bgplan.specs.declared.failure.Failure.{Failure}
use Rattle.bgplan.specs.declared.failure.Failure.TheVariants.{Input, Output}

-- D "Program `bgplan` reads 61 bytes": the text of the plan of the input's first 61 bytes goes out; where a read fails, nothing does
abbrev pub AnswerIs : (input output output' : Option (List ℕ)) → Result (Unit {0}) Failure → Type 0
AnswerIs input output output' (Ok done) = IfSome input (λ bs. Appends output output' (plan_text (case_plan (take 61 bs))))
AnswerIs input output output' (Err (Input why)) = Keeps output output'
AnswerIs input output output' (Err (Output why)) = Unit {0}
