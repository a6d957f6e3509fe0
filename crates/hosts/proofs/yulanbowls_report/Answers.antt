-- `hosts::yulanbowls_report` meets its contract: an area that is too short is left alone, and any other gets the report. Assumes nothing.
use Rattle.hosts.proofs.HostCalls.{report_short, report_written}
use Rattle.hosts.proofs.yulanbowls_report.Goals as goal

pub returns-then-text-lt32768 : goal.returns-then-text-lt32768
returns-then-text-lt32768 c = report_short c.args.bytes.now c.args.text.now c.if-text-lt32768.true

pub returns : goal.returns
returns c = report_written c.args.bytes.now c.args.text.now c.if-text-lt32768.false c.answer.ensures
