-- What the program prints, from the bytes of both files ("Worked sessions", "Who can cause a refusal").
use Rattle.std.specs.Prelude.{List, ◌++◌, ℕ, Ok, Err}
use Rattle.base.specs.Answers.{Answer}
use Rattle.base.specs.declared.Refusal.{Refusal}
use Rattle.base.specs.Chains.{and_then, mapped}
use Rattle.chart.specs.Charts.{Chart}
use Rattle.chart.specs.Compared.{Compared, both}
use Rattle.text.specs.Texts.{read_text}
use Rattle.records.specs.Records.{Record}
use Rattle.condition.specs.declared.Summary.{Summary}
use Rattle.condition.specs.Builds.{recorded, summary}
use Rattle.report.specs.Lines.{line, refusal_line}
use Rattle.report.specs.Transitions.{remaining}

-- ---- both files
-- a refusal of the new chart: "chart (0 old or sole, 1 new)"
abbrev pub in_new : Refusal → Refusal
in_new r = record { number = r.number; chart = 1; position = r.position }

-- the same of an answer: "1 new"
abbrev pub of_new : {A : Type 0} → Answer A → Answer A
of_new (Ok x) = Ok x
of_new (Err r) = Err (in_new r)

-- "the program finishes old.csv before new.csv": what is read of the two texts, by the edition that is named
unfoldable pub both_of : ℕ → Answer Chart → Answer Chart → Answer Compared
both_of edition old new = and_then old (λ (O : Chart). and_then (of_new new) (λ (N : Chart). Ok (both edition O N)))

-- the charts of both files, by their bytes: "A file that can't be read counts as one without bytes."
unfoldable pub both_read : ℕ → List ℕ → List ℕ → Answer Compared
both_read edition old new = both_of edition (read_text old) (read_text new)

-- "the program names 1" (document 02, #104)
abbrev pub program_edition : ℕ
program_edition = 1

-- ---- a condition
-- "start, open, kept, covered"
unfoldable pub summary_line : Summary → List ℕ
summary_line s = line s.start s.opened s.kept s.covered

-- "then for each transition": those of a record, under the new table t
unfoldable pub transitions : List ℕ → Record → List ℕ
transitions t R = remaining t R.graph 0

-- "start, open, kept, covered; then for each transition": a record, under the new table t
unfoldable pub condition : List ℕ → Record → List ℕ
condition t R = summary_line (summary R.start R.graph.marks) ++ transitions t R

-- the same of the record that the builder writes: "the condition that the builder writes"
unfoldable pub condition_of : Compared → List ℕ
condition_of X = condition X.new.table (recorded X)

-- ---- all of it
-- "A refusal prints 9999, number, chart, position."
abbrev pub or_refusal : Answer (List ℕ) → List ℕ
or_refusal (Ok bytes) = bytes
or_refusal (Err r) = refusal_line r

-- what is printed of the condition that edition 1 or 2 builds, by the bytes of both files
unfoldable pub printed_in : ℕ → List ℕ → List ℕ → List ℕ
printed_in edition old new = or_refusal (mapped condition_of (both_read edition old new))

-- "The program reads old.csv and new.csv and prints CSV of four fields": the bytes printed, by those of both files
unfoldable pub printed : List ℕ → List ℕ → List ℕ
printed old new = printed_in program_edition old new
