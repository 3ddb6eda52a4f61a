-- The text that document 01 prints ("One reading, whole"), of the report that the rules give for its run (plain's edges), and lines at the edges of their numbers.
-- Assumes nothing.
use mathlib.Core.List.{◌++◌, zip, zip_with}
use mathlib.Core.Path.{◌≡◌, refl}
use Rattle.plain.specs.Edges.{cut_report, whole_report}
use Rattle.settlement.specs.Books.{pending}
use Rattle.text.specs.Ascii.{bytes_of}
use Rattle.text.specs.Lines.{account_line, log_line, long_line, ok_line, refused_line, register_line, run_line, share_line, tx_line}
use Rattle.text.specs.Tail.{account_lines, lines_from, log_lines, pair_lines, register_lines, tail_text, tx_lines}
use Rattle.text.specs.Text.{decimal, decimal_by, field, fields, line}

pub whole_head : run_line 2 3 1 2 ++ (ok_line 1 1 ++ ok_line 0 1) ≡ bytes_of "run 2 3 1 2\nok 1 1\nok 0 1\n"
unfolding run_line ok_line line fields field decimal decimal_by bytes_of
whole_head = refl

pub whole_tail : tail_text whole_report ≡ bytes_of "log 1 1\nlog 0 1\ntx 0 paid\ntx 1 paid\naccount 0 6 0\naccount 1 6 0\naccount 2 3 0\nregister 0 7\nshare 1000\n"
unfolding tail_text log_lines tx_lines account_lines register_lines lines_from pair_lines zip zip_with
    log_line tx_line account_line register_line share_line line fields field decimal decimal_by bytes_of
whole_tail = refl

pub cut_tail : tail_text cut_report ≡ bytes_of "log 1 1\nlog 0 1\ntx 0 paid\ntx 1 returned\naccount 0 6 0\naccount 1 0 0\naccount 2 9 0\nregister 0 0\nshare 1000\n"
unfolding tail_text log_lines tx_lines account_lines register_lines lines_from pair_lines zip zip_with
    log_line tx_line account_line register_line share_line line fields field decimal decimal_by bytes_of
cut_tail = refl

pub open_line : tx_line 1023 pending ≡ bytes_of "tx 1023 open\n"
unfolding tx_line line fields field decimal decimal_by bytes_of
open_line = refl

pub refused-line : refused_line 16 18446744073709551615 ≡ bytes_of "refused 16 18446744073709551615\n"
unfolding refused_line line fields field decimal decimal_by bytes_of
refused-line = refl

pub long-line : long_line ≡ bytes_of "long\n"
unfolding long_line line fields bytes_of
long-line = refl
