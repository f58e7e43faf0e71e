mod MergeChecks
mod MergeCounted
mod MergeWriting
