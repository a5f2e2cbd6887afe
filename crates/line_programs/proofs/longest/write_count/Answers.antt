-- `write_count` meets its contract (LongestLaws: count_malformed, count_written).
use Rattle.std.proofs.Common.{rules, ◌∙◌, ap}
use Rattle.definitions.specs.Nodes.{node_word}
use Rattle.rules.specs.Meaning.{meaning}
use Rattle.line_programs.proofs.PrintLaws.{passed_on, rule_written}
use Rattle.line_programs.proofs.LongestLaws.{count_malformed, count_written}
use Rattle.line_programs.proofs.longest.write_count.Goals as goal

pub returns-in_err-count : goal.returns-in_err-count
returns-in_err-count c = passed_on _ _ _ _ c.from_residual.ensures.1 (count_malformed c.args.line.now _ c.decimal.ensures _ c.in_err-count.ensures.value)

pub returns : goal.returns
returns c =
    count_written c.args.line.now _ c.decimal.ensures _ c.in_ok-count.ensures.value c.word-until.result c.word.result
    (c.word-until.ensures ∙ ap (λ n. node_word (meaning n)) c.new.ensures)
    (c.word.ensures ∙ ap (λ n. node_word (meaning n)) c.new-2.ensures)
    _ _ (rule_written _ c.args.output.now (search rules) c.write_rule.new.text c.write_rule.result c.write_rule.ensures)
