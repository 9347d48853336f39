mod Gathering
mod HeadSteps
mod LoadSteps
mod OfLoaded
mod RuleSteps
mod Taking
