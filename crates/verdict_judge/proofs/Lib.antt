mod ByNumber
mod DecideLaws
mod JudgeLaws
mod TidiedJudging
